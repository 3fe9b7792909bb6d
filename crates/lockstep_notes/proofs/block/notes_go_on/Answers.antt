-- The laws are proved in `Pairs`.
use Rattle.lockstep_notes.proofs.Pairs.{notes_go_on}
use Rattle.lockstep_notes.proofs.block.notes_go_on.Goals as goal

pub returns : goal.returns
returns c = notes_go_on
