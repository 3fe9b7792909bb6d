use Rattle.std.proofs.Common.{ap, ◌∙◌}
use Rattle.kept_shard.specs.Keeping.{KeepingShard}
use Rattle.kept_shard.proofs.shard.KeptShard.kept.Goals as goal

pub returns : goal.returns
returns g c = c.deref.ensures.value ∙ ap (λ (shard : KeepingShard). shard.kept) c.self.view_is
