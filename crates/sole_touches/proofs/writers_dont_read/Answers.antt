-- The law is proved in `Readers`.
use Rattle.sole_touches.proofs.Readers.{writes_alone_touch}
use Rattle.sole_touches.proofs.writers_dont_read.Goals as goal

pub returns : goal.returns
returns c = writes_alone_touch
