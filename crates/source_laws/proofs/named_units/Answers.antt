use Rattle.source_laws.specs.Texts.{text-named}
use Rattle.source_laws.proofs.named_units.Goals as goal

pub returns : goal.returns
returns c = text-named
