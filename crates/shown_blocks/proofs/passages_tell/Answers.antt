-- Part by part.
use Rattle.shown_blocks.proofs.Shifted.{values-behind, changed-told, woken-told}
use Rattle.shown_blocks.proofs.passages_tell.Goals as goal

pub returns : goal.returns
returns c = record { values = values-behind; changed = changed-told; woken = woken-told }
