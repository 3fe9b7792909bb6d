use Rattle.flat_laws.specs.Rules.{flat-ordered}
use Rattle.flat_laws.proofs.ordered.Goals as goal

pub returns : goal.returns
returns c = flat-ordered
