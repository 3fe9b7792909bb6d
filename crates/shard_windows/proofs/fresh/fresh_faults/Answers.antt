-- One fault more.
use Rattle.std.proofs.Common.{◌+◌, sym, ap, subst, take, ◌∙◌}
use Rattle.std.proofs.lemmas.List.{take_all}
use Rattle.fault_strobes.specs.Said.{SaysNothing, keeps}
use Rattle.fault_strobes.specs.Shown.{said_of}
use Rattle.shard_windows.proofs.Beginning.{AreFresh, fresh-more}
use Rattle.shard_windows.proofs.fresh.fresh_faults.Goals as goal

pub faults-preserved : goal.faults-preserved
faults-preserved c =
    let strobed = c.new_fault.ensures.strobed in
    subst (AreFresh c.args.kept (take (c.faults.fault-index + 1) c.args.faults.now)) (sym c.in_ok-push.ensures.items)
    (fresh-more c.args.kept c.args.faults.now c.faults.fault-index (record { 0 = 0 }) c.faults.fresh.items c.new_fault.result c.faults-test.true c.faults.invariant
    (record {
      copy = c.new_fault.ensures.copy;
      nothing = subst (λ s. SaysNothing (said_of s)) (sym strobed) c.says_nothing-strobed.ensures.nothing;
      kind = ap (λ s. keeps (said_of s)) strobed ∙ c.says_nothing-strobed.ensures.kind;
      end = c.new_fault.ensures.end;
    }))

pub returns : goal.returns
returns c = subst (λ l. AreFresh c.args.kept l c.faults.fresh.items) (take_all c.faults.fault-index c.args.faults.now c.faults-test.false) c.faults.invariant
