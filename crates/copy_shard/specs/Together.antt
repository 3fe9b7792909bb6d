-- Claimed shards through a window side by side (slots by IEEE 1364-2001, clause 5).
use Rattle.std.specs.Prelude.{◌≡◌, ℕ, false, List, ◌++◌, map, sum_by}
use Rattle.std.specs.List.{AllZip}
use Rattle.vf_base.specs.Base.{fault_number}
use Rattle.vf_base.specs.Lists.{AllHold}
use Rattle.v_design.specs.Designs.{FlatDesign, TestPlan}
use Rattle.own_gradings.specs.Numbers.{OwnStepsOf}
use Rattle.shard_windows.specs.copy_window.ShardFaults.{IsShardFault, kept_by}
use Rattle.shard_windows.specs.copy_window.declared.fault.ShardFault.{ShardFault}
use Rattle.shard_windows.specs.Reached.{HasReachedIfOpen}
use Rattle.copy_shard.specs.Kept.{fault_kept}
use Rattle.copy_shard.specs.Shards.{ShardKept, StandsBeside, StaysEnded, places_of, shard_steps}
use Rattle.copy_shard.specs.declared.together.ClaimedShard.{ClaimedShard}
use Rattle.copy_shard.specs.declared.together.Joined.{Joined}

-- the faults of a shard were put behind others, with which they have come so far
pub record JoinsShard (design : FlatDesign) (plan : TestPlan) (shard : ShardKept) (old new : List ShardFault) (joined : Joined) : Type 0 where
  pub part : List ShardFault
  pub behind : new ≡ old ++ part
  pub seen : map fault_kept part ≡ shard.faults
  pub numbers_are : map fault_number joined.numbers.items ≡ places_of (map fault_kept part)
  pub judged : AllHold (λ (own : ShardFault). kept_by own ≡ false) part
  pub reaches : HasReachedIfOpen design plan shard.gone joined.reached new
  pub each : AllHold (IsShardFault design plan shard.gone joined.reached.passed) new

module _ {N : Type 0} where
  -- a claimed shard has gone through so many slots of the good first run
  abbrev pub HasGone : ℕ → ClaimedShard N → Type 0
  HasGone gone claimed = claimed.shard.gone ≡ gone

  -- it goes on to so many: its number and its faults stay, a fault whose grading ended stays as it is, and each stands as a fault does behind so many slots
  pub record GoesThrough (design : FlatDesign) (plan : TestPlan) (through : ℕ) (old new : ClaimedShard N) : Type 0 where
    pub number : new.number ≡ old.number
    pub gone : new.shard.gone ≡ through
    pub places : places_of new.shard.faults ≡ places_of old.shard.faults
    pub ended : AllZip StaysEnded old.shard.faults new.shard.faults
    pub stands : StandsBeside design plan new.shard

  -- the own steps that the faults of claimed shards take
  abbrev pub claimed_steps : {design : FlatDesign} {plan : TestPlan} → OwnStepsOf design plan → List (ClaimedShard N) → ℕ
  claimed_steps tally shards = sum_by (λ (claimed : ClaimedShard N). shard_steps tally claimed.shard) shards
