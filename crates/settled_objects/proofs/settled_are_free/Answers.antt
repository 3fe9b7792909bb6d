-- The law is proved in `Settled`.
use Rattle.settled_objects.proofs.Settled.{settled_objects_are_free}
use Rattle.settled_objects.proofs.settled_are_free.Goals as goal

pub returns : goal.returns
returns c = settled_objects_are_free
