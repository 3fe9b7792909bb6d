-- By what contracts see of the faults.
use Rattle.std.proofs.Common.{ap, ◌∙◌}
use Rattle.std.specs.List.{list_any}
use Rattle.copy_shard.specs.Shards.{ShardKept, goes_on}
use Rattle.shard_windows.specs.Reached.{is_open}
use Rattle.copy_shard.proofs.Copies.{open-seen}
use Rattle.copy_shard.proofs.shard.Shard.goes_on.Goals as goal

pub returns : goal.returns
returns g c =
    c.some_open.ensures ∙ (ap (list_any is_open) c.deref.ensures.value ∙ (open-seen c.self.inside.faults.items ∙ ap (λ (kept : ShardKept). list_any goes_on kept.faults) c.self.view_is))
