-- So far it is said of each fault.
use Rattle.std.proofs.Common.{take}
use Rattle.vf_base.specs.Lists.{AllHold}
use Rattle.lockstep_slot.specs.Beside.{KeepsAscending}
use Rattle.lockstep_slot.proofs.slot.ascending_each.Given as goal

abbrev pub invariant-faults : goal.invariant-faults
invariant-faults l = AllHold KeepsAscending (take l.each-index l.faults)
