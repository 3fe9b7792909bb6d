use Rattle.std.proofs.Common.{◌+◌, ◌≤◌, ◌<◌, length}
use Rattle.v_scan.specs.Texts.{start}
use Rattle.v_scan.specs.Reading.{IsRead}
use Rattle.v_scan.proofs.tokens.tokens_of.Given as goal

abbrev pub invariant-pieces : goal.invariant-pieces
invariant-pieces l = record {
  reads : IsRead start l.fn.text l.rest l.leading l.place l.tokens.items;
  line : l.place.line + length l.rest ≤ 1 + length l.fn.text;
  column : l.place.column + length l.rest ≤ 1 + length l.fn.text;
  first : 0 < l.place.column;
}

abbrev pub decreases-pieces : goal.decreases-pieces
decreases-pieces l = length l.rest
