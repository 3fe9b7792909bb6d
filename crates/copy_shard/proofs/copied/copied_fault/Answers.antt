-- All is copied.
use Rattle.std.proofs.Common.{refl}
use Rattle.copy_shard.proofs.copied.copied_fault.Goals as goal

pub returns : goal.returns
returns c = record { copy = c.in_ok-copy.ensures; time = refl; said = c.copied_strobed-strobed.ensures; end = refl }
