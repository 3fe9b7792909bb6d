-- The laws are proved in `There`.
use Rattle.copy_skip.proofs.There.{searches_begin}
use Rattle.copy_skip.proofs.laws.searches_begin.Goals as goal

pub returns : goal.returns
returns c = searches_begin
