use Rattle.source_laws.specs.NamedRules.{named-keep}
use Rattle.source_laws.proofs.named_kept.Goals as goal

pub returns : goal.returns
returns c = named-keep
