-- The law is proved in `Blocks`.
use Rattle.lockstep_places.proofs.Blocks.{places_told}
use Rattle.lockstep_places.proofs.places_are_told.Goals as goal

pub returns : goal.returns
returns c = places_told c.blocks_are_told.ensures.stand
