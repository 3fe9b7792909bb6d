-- Copies of a shard (nothing of the language).
use Rattle.std.specs.Prelude.{◌≡◌, List, map}
use Rattle.std.specs.List.{AllZip}
use Rattle.v_design.specs.Designs.{FlatDesign}
use Rattle.copy_laws.specs.Differences.{Differences}
use Rattle.copy_state.specs.Copied.{KeepsSame}
use Rattle.shard_windows.specs.copy_window.Copies.{differences_in}
use Rattle.shard_windows.specs.copy_window.ShardFaults.{said_by}
use Rattle.shard_windows.specs.copy_window.declared.fault.ShardFault.{ShardFault}
use Rattle.copy_shard.specs.Shards.{FaultKept, ShardKept}

-- the same is kept of a fault, and its grading goes on or ended alike
pub record IsSameFault (old new : FaultKept) : Type 0 where
  pub copy : KeepsSame old.copy new.copy
  pub end : new.end ≡ old.end

-- a shard of the same faults, of each of which the same is kept, that has gone through as many slots
pub record IsSameShard (old new : ShardKept) : Type 0 where
  pub gone : new.gone ≡ old.gone
  pub faults : AllZip IsSameFault old.faults new.faults

-- the differences for which the copies of some faults stand
abbrev pub differences_of_each : FlatDesign → List FaultKept → List Differences
differences_of_each design faults = map (λ (kept : FaultKept). differences_in design kept.copy) faults

-- a fault of a shard once more
pub record IsCopied (old new : ShardFault) : Type 0 where
  pub copy : KeepsSame old.copy new.copy
  pub time : new.time ≡ old.time
  pub said : said_by new ≡ said_by old
  pub end : new.end ≡ old.end
