use Rattle.std.proofs.Common.{◌≡◌, ◌++◌, drop}
use Rattle.vf_pick.specs.Faults.{lists_of}
use Rattle.vf_pick.specs.Occurrences.{occurrences_from}
use Rattle.vf_pick.proofs.fault_index.index_faults.Given as goal

abbrev pub invariant-faults : goal.invariant-faults
invariant-faults l = l.occurrences.items ++ occurrences_from l.strobes l.fault (lists_of (drop l.fault l.hard)) ≡ occurrences_from l.strobes 0 (lists_of l.hard)
