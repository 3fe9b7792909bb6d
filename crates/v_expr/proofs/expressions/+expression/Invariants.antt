-- Each call is of fewer levels, or of a reader further down on the same level.
use Rattle.std.proofs.Common.{◌≡◌, ◌+◌, ◌*◌, ◌<◌, ◌≤◌, length, map, [], ◌∷◌}
use Rattle.v_tree.specs.Views.{expression_of}
use Rattle.v_readers.specs.declared.class.Class.TheVariants as classes
use Rattle.v_readers.specs.Reading.{repeat}
use Rattle.v_readers.specs.Separated.{element_turn}
use Rattle.v_expr.specs.Heights.{height_of, heights_of}
use Rattle.v_expr.specs.Expressions.{inner_of, operands, operand_turn}
use Rattle.v_expr.proofs.expressions.+expression.Given as goal
use Rattle.v_tree.specs.Trees.{parts_of}

abbrev pub decreases-below : goal.decreases-below
decreases-below l = 16 * l.levels

abbrev pub decreases-inner : goal.decreases-inner
decreases-inner l = 16 * l.levels + 1

abbrev pub decreases-second_bound : goal.decreases-second_bound
decreases-second_bound l = 16 * l.levels + 2

abbrev pub decreases-more : goal.decreases-more
decreases-more l = 16 * l.levels + 2

abbrev pub decreases-prefixed : goal.decreases-prefixed
decreases-prefixed l = 16 * l.levels + 2

abbrev pub decreases-branches : goal.decreases-branches
decreases-branches l = 16 * l.levels + 2

abbrev pub decreases-operand : goal.decreases-operand
decreases-operand l = 16 * l.levels + 2

abbrev pub decreases-index : goal.decreases-index
decreases-index l = 16 * l.levels + 3

abbrev pub decreases-replication : goal.decreases-replication
decreases-replication l = 16 * l.levels + 3

abbrev pub decreases-concatenation : goal.decreases-concatenation
decreases-concatenation l = 16 * l.levels + 3

abbrev pub decreases-braced : goal.decreases-braced
decreases-braced l = 16 * l.levels + 4

abbrev pub decreases-named : goal.decreases-named
decreases-named l = 16 * l.levels + 4

abbrev pub decreases-primary : goal.decreases-primary
decreases-primary l = 16 * l.levels + 5

abbrev pub decreases-operands : goal.decreases-operands
decreases-operands l = 16 * l.levels + 6

abbrev pub decreases-choice : goal.decreases-choice
decreases-choice l = 16 * l.levels + 7

-- What was read so far, and what comes of it, is what is read from the start.
abbrev pub invariant-operands-operands : goal.invariant-operands-operands
invariant-operands-operands l = record {
  same : operands l.levels (inner_of l.levels) l.greatest l.fn.tokens ≡ repeat (operand_turn l.levels (inner_of l.levels) l.greatest) (expression_of l.left.expr) l.rest;
  height : l.left.height ≡ height_of (expression_of l.left.expr);
  within : l.left.height ≤ l.levels;
  shorter : length l.rest ≤ length l.fn.tokens;
}

abbrev pub decreases-operands-operands : goal.decreases-operands-operands
decreases-operands-operands l = length l.rest

-- What comes of the parts so far is what comes of the first one.
abbrev pub invariant-more-parts : goal.invariant-more-parts
invariant-more-parts l = record {
  same : repeat (element_turn classes.Comma (inner_of l.levels 11)) (expression_of l.fn.first.expr ∷ []) l.fn.tokens
      ≡ repeat (element_turn classes.Comma (inner_of l.levels 11)) (map expression_of l.parts.items) l.rest;
  height : l.height ≡ heights_of (parts_of (map expression_of l.parts.items));
  within : l.height < l.levels;
  shorter : length l.rest ≤ length l.fn.tokens;
}

abbrev pub decreases-more-parts : goal.decreases-more-parts
decreases-more-parts l = length l.rest
