-- What comes of the items so far is what comes of all.
use Rattle.std.proofs.Common.{◌≡◌, ◌≤◌, [], map, length}
use Rattle.v_tree.specs.Views.{item_of}
use Rattle.v_readers.specs.Reading.{repeat}
use Rattle.v_parse.specs.Items.{items_turn}
use Rattle.v_parse.proofs.modules.items.Given as goal

abbrev pub invariant-items : goal.invariant-items
invariant-items l = record {
  same : repeat (items_turn l.levels) [] l.fn.tokens ≡ repeat (items_turn l.levels) (map item_of l.items.items) l.rest;
  shorter : length l.rest ≤ length l.fn.tokens;
}

abbrev pub decreases-items : goal.decreases-items
decreases-items l = length l.rest
