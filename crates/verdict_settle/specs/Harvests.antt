-- What was found of the faults of some shards, beside what a seat knows of their words (grades by the definition, over events by IEEE 1364-2001, clause 5).
use Rattle.std.specs.Prelude.{ℕ, List}
use Rattle.std.specs.List.{All, Contains, flat_map}
use Rattle.vf_base.specs.Base.{fault_number}
use Rattle.vf_base.specs.declared.finding.Finding.{Finding}
use Rattle.v_design.specs.Designs.{FlatDesign, TestPlan}
use Rattle.fault_shards.specs.Cuts.{shard}
use Rattle.fault_shards.specs.Found.{IsFinding, found_faults}
use Rattle.verdict_words.specs.declared.view.View.{View}
use Rattle.verdict_words.specs.declared.view.Mark.{Mark}
use Rattle.verdict_settle.specs.Settling.{IsSeen}

-- the faults of the shards that were claimed
abbrev pub claimed_faults : List ℕ → List ℕ → List ℕ
claimed_faults representatives claims = flat_map (λ claim. shard claim representatives) claims

-- What was found of some faults that are done, beside what a seat knows: each finding tells the grade of its fault, each fault that is done was found and its
-- word was seen, and only words of representatives were moved.
pub record IsHarvest (design : FlatDesign) (plan : TestPlan) (representatives done : List ℕ) (v : View) (found : List Finding) : Type 0 where
  pub graded : All (IsFinding design plan) found
  pub complete : (fault : ℕ) → Contains done fault → Contains (found_faults found) fault × IsSeen v.seen fault
  pub moved : All (λ (m : Mark). Contains representatives (fault_number m.fault)) v.moved
