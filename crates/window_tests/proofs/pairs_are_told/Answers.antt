-- The laws are proved in `Pairs`.
use Rattle.window_tests.proofs.Pairs.{pairs_are_told}
use Rattle.window_tests.proofs.pairs_are_told.Goals as goal

pub returns : goal.returns
returns c = pairs_are_told
