use Rattle.flat_laws.specs.Rules.{flat-low}
use Rattle.flat_laws.proofs.low.Goals as goal

pub returns : goal.returns
returns c = flat-low
