use Rattle.source_laws.specs.KeptRules.{text-keeps}
use Rattle.source_laws.proofs.kept.Goals as goal

pub returns : goal.returns
returns c = text-keeps
