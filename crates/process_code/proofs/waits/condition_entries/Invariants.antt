use Rattle.std.proofs.Common.{drop}
use Rattle.std.specs.Prelude.{nat_eq}
use Rattle.std.specs.HashSet.{contains}
use Rattle.process_code.proofs.WaitEntries.{EntersOnce}
use Rattle.process_code.proofs.waits.condition_entries.Given as goal

abbrev pub invariant-pieces : goal.invariant-pieces
invariant-pieces l = EntersOnce l.piece-items (drop l.piece-index l.piece-items) (contains nat_eq l.seen) l.entries.items
