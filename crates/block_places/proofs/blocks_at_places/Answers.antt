-- The law is proved in `Found`.
use Rattle.block_places.proofs.Found.{blocks_at_places}
use Rattle.block_places.proofs.blocks_at_places.Goals as goal

pub returns : goal.returns
returns c = blocks_at_places c.places_in_windows.ensures
