-- Each call is of fewer levels, or of a reader further down on the same level.
use Rattle.std.proofs.Common.{◌≡◌, ◌+◌, ◌*◌, ◌<◌, ◌≤◌, length, map}
use Rattle.v_tree.specs.Views.{statement_of}
use Rattle.v_tree.specs.CaseParts.{case_part_of}
use Rattle.v_readers.specs.Reading.{repeat}
use Rattle.v_stmt.specs.Statements as read
use Rattle.v_stmt.proofs.statements.+statement.Given as goal

abbrev pub decreases-below : goal.decreases-below
decreases-below l = 16 * l.levels

abbrev pub decreases-inner : goal.decreases-inner
decreases-inner l = 16 * l.levels + 1

abbrev pub decreases-block_body : goal.decreases-block_body
decreases-block_body l = 16 * l.levels + 1

abbrev pub decreases-branches : goal.decreases-branches
decreases-branches l = 16 * l.levels + 2

abbrev pub decreases-looped : goal.decreases-looped
decreases-looped l = 16 * l.levels + 2

abbrev pub decreases-forever : goal.decreases-forever
decreases-forever l = 16 * l.levels + 2

abbrev pub decreases-for_loop : goal.decreases-for_loop
decreases-for_loop l = 16 * l.levels + 2

abbrev pub decreases-event : goal.decreases-event
decreases-event l = 16 * l.levels + 2

abbrev pub decreases-delayed : goal.decreases-delayed
decreases-delayed l = 16 * l.levels + 2

abbrev pub decreases-item : goal.decreases-item
decreases-item l = 16 * l.levels + 1

abbrev pub decreases-block : goal.decreases-block
decreases-block l = 16 * l.levels + 2

abbrev pub decreases-conditional : goal.decreases-conditional
decreases-conditional l = 16 * l.levels + 3

abbrev pub decreases-items : goal.decreases-items
decreases-items l = 16 * l.levels + 2

abbrev pub decreases-case : goal.decreases-case
decreases-case l = 16 * l.levels + 3

abbrev pub decreases-piece : goal.decreases-piece
decreases-piece l = 16 * l.levels + 4

-- What comes of the statements so far is what comes of the whole body.
abbrev pub invariant-block_body-body : goal.invariant-block_body-body
invariant-block_body-body l = record {
  same : read.block_body l.levels (read.below_of l.levels) l.fn.tokens ≡ repeat (read.body_turn l.levels (read.below_of l.levels)) (map statement_of l.statements.items) l.rest;
  shorter : length l.rest ≤ length l.fn.tokens;
}

abbrev pub decreases-block_body-body : goal.decreases-block_body-body
decreases-block_body-body l = length l.rest

-- What comes of the items so far is what comes of the first one.
abbrev pub invariant-items-items : goal.invariant-items-items
invariant-items-items l = record {
  same : read.items l.levels (read.below_of l.levels) l.fn.tokens ≡ repeat (read.items_turn l.levels (read.below_of l.levels)) (map case_part_of l.items.items) l.rest;
  shorter : length l.rest < length l.fn.tokens;
}

abbrev pub decreases-items-items : goal.decreases-items-items
decreases-items-items l = length l.rest
