-- A shard of listed faults.
use Rattle.std.proofs.Common.{ap, ◌∙◌}
use Rattle.kept_shard.specs.Keeping.{KeepingShard, numbers_of}
use Rattle.fault_shards.specs.Shards.{representatives_of}
use Rattle.fault_shards.specs.CutLaws.{shard-listed}
use Rattle.dict_windows.proofs.Shards.{numbers-fresh}
use Rattle.dict_windows.proofs.faults.begin_shard.Goals as goal

pub new-requires-after_bounds : goal.new-requires-after_bounds
new-requires-after_bounds g c κs within =
    shard-listed g.N.World.design g.N.World.plan.faults (representatives_of c.args.shards.now) c.args.number _ c.shards_cover.ensures c.requires.shards.representatives c.shard-faults.ensures

pub returns-clause-faults : goal.returns-clause-faults
returns-clause-faults g c = ap (λ (own : KeepingShard). numbers_of own.kept) c.in_ok-own.ensures ∙ (numbers-fresh _ ∙ c.shard-faults.ensures)
