use Rattle.std.proofs.Common.{◌≡◌, ◌+◌, ◌≤◌, ◌<◌, drop}
use Rattle.v_scan.specs.Texts.{place_behind}
use Rattle.v_scan.proofs.tokens.place_behind.Given as goal

abbrev pub invariant-loop-b : goal.invariant-loop-b
invariant-loop-b l = record {
  same : place_behind l.place (drop l.b-index l.bytes) ≡ place_behind l.fn.start l.bytes;
  line : l.place.line ≤ l.fn.start.line + l.b-index;
  column : l.place.column ≤ l.fn.start.column + l.b-index;
  first : 0 < l.place.column;
}
