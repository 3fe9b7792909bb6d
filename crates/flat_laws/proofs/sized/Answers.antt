use Rattle.flat_laws.specs.Names.NamedUnits.{named-sized}
use Rattle.flat_laws.proofs.sized.Goals as goal

pub returns : goal.returns
returns c = named-sized
