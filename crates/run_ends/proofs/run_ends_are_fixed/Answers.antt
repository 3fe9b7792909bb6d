-- The law is proved in `Fixed`.
use Rattle.run_ends.proofs.Fixed.{run_ends_are_fixed}
use Rattle.run_ends.proofs.run_ends_are_fixed.Goals as goal

pub returns : goal.returns
returns c = run_ends_are_fixed
