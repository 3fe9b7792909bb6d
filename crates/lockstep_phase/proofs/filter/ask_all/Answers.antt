-- One fault after the other.
use Rattle.std.proofs.Common.{arith}
use Rattle.lockstep_turn.specs.phase_faults.Beside.{AsksFilter}
use Rattle.lockstep_turn.proofs.phase_faults.Lists.{changed-all, changed-length, changed-more, changed-none}
use Rattle.lockstep_phase.proofs.filter.ask_all.Goals as goal

pub faults-init : goal.faults-init
faults-init g c =
    changed-none (AsksFilter g.N.World.design g.N.World.plan c.args.view.now.window.now.before c.args.view.now.window.now.through c.args.end) c.args.faults.now.items

pub index_mut-each-requires : goal.index_mut-each-requires
index_mut-each-requires g c =
    let R = AsksFilter g.N.World.design g.N.World.plan c.args.view.now.window.now.before c.args.view.now.window.now.through c.args.end in
    let same = changed-length R c.faults.place c.args.faults.now.items c.faults.faults.items c.faults.invariant in
    omega (arith, c.faults-test.true, c.len-place-end.ensures, same)

pub faults-preserved : goal.faults-preserved
faults-preserved g c =
    let R = AsksFilter g.N.World.design g.N.World.plan c.args.view.now.window.now.before c.args.view.now.window.now.through c.args.end in
    changed-more R c.faults.place c.args.faults.now.items c.faults.faults.items c.index_mut-each.result.now c.ask_filter.new.each c.faults.invariant
    (omega (arith, c.faults-test.true, c.len-place-end.ensures)) c.index_mut-each.ensures.value c.ask_filter.ensures

pub returns : goal.returns
returns g c =
    let R = AsksFilter g.N.World.design g.N.World.plan c.args.view.now.window.now.before c.args.view.now.window.now.through c.args.end in
    changed-all R c.faults.place c.args.faults.now.items c.faults.faults.items c.faults.invariant (omega (arith, c.faults-test.false, c.len-place-end.ensures))
