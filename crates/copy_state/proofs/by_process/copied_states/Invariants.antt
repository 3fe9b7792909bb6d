use Rattle.std.proofs.Common.{map, take}
use Rattle.std.specs.List.{AllZip}
use Rattle.copy_state.specs.Copied.{IsSameState}
use Rattle.copy_state.specs.Listed.{entry_of}
use Rattle.copy_state.proofs.by_process.copied_states.Given as goal

abbrev pub invariant-processes : goal.invariant-processes
invariant-processes l = AllZip IsSameState (map entry_of (take l.own-index l.own-items)) (map entry_of l.entries.items)
