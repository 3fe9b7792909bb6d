-- What comes of the connections so far and of what stands behind the last comma is what comes of all.
use Rattle.std.proofs.Common.{◌≡◌, ◌≤◌, true, map, length}
use Rattle.v_tree.specs.Views.{expression_in, connection_of}
use Rattle.v_readers.specs.Reading.{followed, repeat, next_class}
use Rattle.v_parse.specs.Items.{placed_turn, placed_connections}
use Rattle.v_parse.proofs.Turns.{to_closing, is_ended}
use Rattle.v_parse.proofs.connections.placed_connections.Given as goal

abbrev pub invariant-positions : goal.invariant-positions
invariant-positions l = record {
  same : placed_connections l.levels l.fn.tokens
      ≡ followed (repeat (placed_turn l.levels) (record { ended = map connection_of l.ended.items; last = expression_in l.last }) l.rest) to_closing;
  ended : is_ended (expression_in l.last) (next_class l.rest) ≡ true;
  shorter : length l.rest ≤ length l.fn.tokens;
}

abbrev pub decreases-positions : goal.decreases-positions
decreases-positions l = length l.rest
