use Rattle.std.proofs.Common.{◌≡◌, map, take}
use Rattle.vf_base.specs.Base.{fault_number}
use Rattle.kept_shard.specs.Keeping.{fresh_kept}
use Rattle.kept_shard.proofs.samples.kept_fresh.Given as goal

abbrev pub invariant-faults : goal.invariant-faults
invariant-faults l = l.kept.items ≡ map fresh_kept (map fault_number (take l.fault-index l.faults))
