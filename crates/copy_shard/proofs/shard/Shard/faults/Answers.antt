-- The numbers are the faults' places.
use Rattle.std.proofs.Common.{ap, ◌∙◌}
use Rattle.std.specs.Prelude.{map}
use Rattle.vf_base.specs.Base.{fault_number}
use Rattle.copy_shard.specs.Shards.{ShardKept, places_of}
use Rattle.copy_shard.proofs.shard.Shard.faults.Goals as goal

pub returns : goal.returns
returns g c = ap (map fault_number) c.deref.ensures.value ∙ c.self.invariant.numbers_are ∙ ap (λ (kept : ShardKept). places_of kept.faults) c.self.view_is
