-- Each fault has a strobe left to take.
use Rattle.std.proofs.Common.{◌<◌, ◌≤◌, get_or, length, subst, sym, arith}
use Rattle.std.proofs.lemmas.List.{get_or_read}
use Rattle.vf_pick.proofs.Taking.{enough-left}
use Rattle.vf_pick.proofs.counts.take_one.Goals as goal

pub overflow_sub-index_mut : goal.overflow_sub-index_mut
overflow_sub-index_mut c =
    let within : get_or c.args.faults.now c.faults.fault-index 0 < length c.faults.counts.items =
    omega (arith, c.requires.within c.faults.fault-index 0 c.faults-test.true, c.faults.invariant.same) in
    let left =
    enough-left c.args.counts.now.items c.faults.counts.items c.args.faults.now c.faults.fault-index c.faults-test.true c.faults.invariant.same within c.faults.invariant.taken c.requires.enough in
    subst (λ n. 1 ≤ n) (sym (get_or_read c.faults.counts.items (get_or c.args.faults.now c.faults.fault-index 0) c.index_mut.result.now within c.index_mut.ensures.value 0)) left
