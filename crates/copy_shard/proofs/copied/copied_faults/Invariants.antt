use Rattle.std.proofs.Common.{take}
use Rattle.std.specs.List.{AllZip}
use Rattle.copy_shard.specs.Copied.{IsCopied}
use Rattle.copy_shard.proofs.copied.copied_faults.Given as goal

abbrev pub invariant-faults : goal.invariant-faults
invariant-faults l = AllZip IsCopied (take l.own-index l.faults) l.copies.items
