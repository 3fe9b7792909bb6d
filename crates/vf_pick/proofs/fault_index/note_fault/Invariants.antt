use Rattle.std.proofs.Common.{◌≡◌, ◌++◌, map, take}
use Rattle.vf_pick.specs.Occurrences.{occurrence_of}
use Rattle.vf_pick.proofs.fault_index.note_fault.Given as goal

abbrev pub invariant-times : goal.invariant-times
invariant-times l = l.occurrences.items ≡ l.initial.occurrences.items ++ map (occurrence_of l.strobes l.fault) (take l.time-index l.times)
