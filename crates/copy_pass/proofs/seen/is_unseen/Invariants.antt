use Rattle.std.proofs.Common.{take}
use Rattle.copy_pass.proofs.Watched.{NoneDiffers}
use Rattle.copy_pass.proofs.seen.is_unseen.Given as goal

abbrev pub invariant-watched : goal.invariant-watched
invariant-watched l = NoneDiffers l.copy.values (take l.place-index l.watched)
