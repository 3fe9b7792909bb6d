-- One fault more.
use Rattle.std.proofs.Common.{subst, arith}
use Rattle.std.proofs.lemmas.List.{take_all}
use Rattle.vf_base.specs.Lists.{AllHold}
use Rattle.lockstep_slot.specs.Beside.{KeepsAscending}
use Rattle.lockstep_slot.proofs.Lists.{take-more}
use Rattle.lockstep_slot.proofs.slot.ascending_each.Goals as goal

pub faults-preserved : goal.faults-preserved
faults-preserved c =
    take-more KeepsAscending c.args.faults.now c.faults.each-index c.each-item.result c.faults-test.true c.each-item.is c.faults.invariant
    (record { values = c.ascending.ensures.values; updates = c.ascending.ensures.updates })

pub returns : goal.returns
returns c = subst (AllHold KeepsAscending) (take_all c.faults.each-index c.args.faults.now (omega (arith, c.faults-test.false))) c.faults.invariant
