-- What comes of the groups so far is what comes of all.
use Rattle.std.proofs.Common.{◌≡◌, ◌<◌, ◌++◌, ◌∷◌, [], map, length}
use Rattle.v_tree.specs.Views.{ports_of}
use Rattle.v_readers.specs.Reading.{repeat}
use Rattle.v_parse.specs.Items.{ports_turn}
use Rattle.v_parse.specs.Rows.{port_groups}
use Rattle.v_parse.proofs.headers.port_groups.Given as goal

abbrev pub invariant-groups : goal.invariant-groups
invariant-groups l = record {
  same : port_groups l.levels l.fn.direction l.fn.tokens ≡ repeat (ports_turn l.levels) (map ports_of l.row.before.items ++ ports_of l.row.last ∷ []) l.rest;
  shorter : length l.rest < length l.fn.tokens;
}

abbrev pub decreases-groups : goal.decreases-groups
decreases-groups l = length l.rest
