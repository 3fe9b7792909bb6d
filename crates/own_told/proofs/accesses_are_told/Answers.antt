-- The law is proved in `Told`.
use Rattle.own_told.proofs.Told.{told_passes_none}
use Rattle.own_told.proofs.accesses_are_told.Goals as goal

pub returns : goal.returns
returns c = told_passes_none
