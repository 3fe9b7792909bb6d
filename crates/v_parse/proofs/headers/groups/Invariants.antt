-- What comes of the groups so far is what comes of all.
use Rattle.std.proofs.Common.{◌≡◌, ◌<◌, ◌++◌, ◌∷◌, [], map, length}
use Rattle.v_tree.specs.Views.{parameters_of}
use Rattle.v_readers.specs.Reading.{repeat}
use Rattle.v_parse.specs.Items.{groups, groups_turn}
use Rattle.v_parse.proofs.headers.groups.Given as goal

abbrev pub invariant-groups : goal.invariant-groups
invariant-groups l = record {
  same : groups l.levels l.fn.tokens ≡ repeat (groups_turn l.levels) (map parameters_of l.row.before.items ++ parameters_of l.row.last ∷ []) l.rest;
  shorter : length l.rest < length l.fn.tokens;
}

abbrev pub decreases-groups : goal.decreases-groups
decreases-groups l = length l.rest
