use Rattle.std.proofs.Common.{take}
use Rattle.shard_windows.proofs.Beginning.{AreFresh}
use Rattle.shard_windows.proofs.fresh.fresh_faults.Given as goal

abbrev pub invariant-faults : goal.invariant-faults
invariant-faults l = AreFresh l.kept (take l.fault-index l.faults) l.fresh.items
