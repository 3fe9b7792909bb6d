-- A shard behind a window, as it came through or was found (slots by IEEE 1364-2001, clause 5).
use Rattle.std.specs.Prelude.{◌≡◌, ℕ}
use Rattle.v_design.specs.Designs.{FlatDesign, TestPlan}
use Rattle.copy_shard.specs.Shards.{ShardKept, StandsBeside, places_of}

-- another shard has the same faults, and has gone through so many slots
pub record HasDone (through : ℕ) (own other : ShardKept) : Type 0 where
  pub gone : other.gone ≡ through
  pub places : places_of other.faults ≡ places_of own.faults

-- a shard is another one behind so many slots: it has the same faults, and these stand there as faults do, each with its grade, if its grading ended by then
pub record ComesBehind (design : FlatDesign) (plan : TestPlan) (through : ℕ) (own behind : ShardKept) : Type 0 where
  pub done : HasDone through own behind
  pub stands : StandsBeside design plan behind
