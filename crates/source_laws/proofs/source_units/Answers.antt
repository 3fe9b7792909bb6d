use Rattle.source_laws.specs.Texts.{text-source}
use Rattle.source_laws.proofs.source_units.Goals as goal

pub returns : goal.returns
returns c = text-source
