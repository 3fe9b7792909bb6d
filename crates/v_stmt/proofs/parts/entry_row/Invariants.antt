use Rattle.std.proofs.Common.{◌≡◌, ◌<◌, map, length}
use Rattle.v_tree.specs.Views.{entry_of}
use Rattle.v_readers.specs.Reading.{repeat}
use Rattle.v_stmt.specs.Statements as read
use Rattle.v_stmt.proofs.parts.entry_row.Given as goal

-- What comes of the entries so far is what comes of the first one.
abbrev pub invariant-entries : goal.invariant-entries
invariant-entries l = record {
  same : read.entry_row l.levels l.fn.tokens ≡ repeat (read.entries_turn l.levels) (map entry_of l.entries.items) l.rest;
  shorter : length l.rest < length l.fn.tokens;
}

abbrev pub decreases-entries : goal.decreases-entries
decreases-entries l = length l.rest
