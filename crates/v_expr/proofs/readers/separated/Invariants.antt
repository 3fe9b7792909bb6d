-- What comes of the parts so far is what comes of all.
use Rattle.std.proofs.Common.{◌≡◌, ◌≤◌, map, length}
use Rattle.v_readers.specs.declared.class.Class.TheVariants as classes
use Rattle.v_readers.specs.Reading.{repeat}
use Rattle.v_readers.specs.Separated.{separated, element_turn}
use Rattle.v_expr.proofs.readers.separated.Given as goal

abbrev pub invariant-row : goal.invariant-row
invariant-row g l = record {
  same : separated classes.Comma (g.R.PartReader.reader l.parts) l.fn.tokens
      ≡ repeat (element_turn classes.Comma (g.R.PartReader.reader l.parts)) (map g.R.PartReader.tree_of l.row.items) l.rest;
  shorter : length l.rest ≤ length l.fn.tokens;
}

abbrev pub decreases-row : goal.decreases-row
decreases-row g l = length l.rest
