-- The laws are proved in `Told`.
use Rattle.window_tests.proofs.Told.{stretches_are_told}
use Rattle.window_tests.proofs.stretches_are_told.Goals as goal

pub returns : goal.returns
returns c = stretches_are_told c.reads_are_told.ensures
