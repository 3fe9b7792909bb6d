-- The law is proved in `Told`.
use Rattle.own_told.proofs.Told.{causes_agree}
use Rattle.own_told.proofs.causes_agree.Goals as goal

pub returns : goal.returns
returns c = causes_agree c.events_are_told.ensures.causes
