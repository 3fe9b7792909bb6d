-- The changes so far are told.
use Rattle.std.proofs.Common.{◌≡◌, ◌++◌, map, take}
use Rattle.block_told.specs.Tells.{write_seen, noted_seen}
use Rattle.block_told.proofs.notes.add_net_changes.Given as goal

abbrev pub invariant-changes : goal.invariant-changes
invariant-changes l = map noted_seen l.accesses.items ≡ map noted_seen l.initial.accesses.items ++ map write_seen (take l.change-index l.changes)
