use Rattle.flat_laws.specs.Names.NamedUnits.{named-written}
use Rattle.flat_laws.proofs.written.Goals as goal

pub returns : goal.returns
returns c = named-written
