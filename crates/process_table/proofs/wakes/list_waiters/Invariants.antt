use Rattle.std.proofs.Common.{map, take}
use Rattle.value_change.specs.Changes.{change_seen}
use Rattle.process_table.specs.Wakes.{HasWaiters}
use Rattle.process_table.proofs.wakes.list_waiters.Given as goal

abbrev pub invariant-changes : goal.invariant-changes
invariant-changes l = HasWaiters l.index (map change_seen (take l.change-index l.changes)) l.candidates.items
