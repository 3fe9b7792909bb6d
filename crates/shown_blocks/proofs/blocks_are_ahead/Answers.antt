-- By the places of the blocks.
use Rattle.shown_blocks.proofs.BlockAt.{block-told, block-there}
use Rattle.shown_blocks.proofs.blocks_are_ahead.Goals as goal

pub returns : goal.returns
returns c = record {
  told = block-told c.places_are_told.ensures c.blocks_at_places.ensures;
  there = block-there c.places_are_told.ensures c.phases_follow.ensures.phases c.blocks_are_told.ensures.end;
}
