-- What contracts see of a shard whose faults' samples are kept, and what stands of it behind so many slots of the good first run (strobes by the plan; slots by IEEE 1364-2001, clause 5).
use Rattle.std.specs.Prelude.{◌≡◌, ℕ, true, List, [], map, length, Option, None, Some, slice_get, sum_by}
use Rattle.std.specs.List.{filter_map}
use Rattle.vf_base.specs.Base.{fault_number}
use Rattle.vf_base.specs.Lists.{AllHold}
use Rattle.v_design.specs.Designs.{FlatDesign, StuckAt, TestPlan}
use Rattle.copy_laws.specs.Windows.{good_slots, time_at}
use Rattle.own_gradings.specs.Numbers.{OwnStepsOf}
use Rattle.kept_samples.specs.Kept.{Keeps}
use Rattle.kept_samples.specs.declared.kept.Kept.{Kept}
use Rattle.fault_strobes.specs.Reached.{KeepsTo}

-- a shard: through how many slots of the good first run it has gone, and what is kept of its faults
pub record KeepingShard : Type 0 where
  pub gone : ℕ
  pub kept : List Kept

-- the places of its faults in the plan
abbrev pub numbers_of : List Kept → List ℕ
numbers_of kept = map (λ (one : Kept). fault_number one.fault) kept

-- before the first slot nothing is kept of the fault of a number
abbrev pub fresh_kept : ℕ → Kept
fresh_kept number = record { fault = record { 0 = number }; differs = []; end = None }

abbrev pub fresh_keeping : List ℕ → KeepingShard
fresh_keeping numbers = record { gone = 0; kept = map fresh_kept numbers }

-- a fault is listed, and its full grade is kept as far as it goes up to the time to which so many slots lead; nothing before the first one
pub record KeptStands (design : FlatDesign) (plan : TestPlan) (gone : ℕ) (kept : Kept) : Type 0 where
  pub fault : StuckAt
  pub listed : slice_get plan.faults (fault_number kept.fault) ≡ Some fault
  pub none_before : gone ≡ 0 → (kept.end ≡ None) × (kept.differs ≡ [])
  pub to : (time : ℕ) → time_at design plan gone ≡ Some time → KeepsTo design plan fault time kept

-- its whole full grade is kept
pub record KeptWhole (design : FlatDesign) (plan : TestPlan) (kept : Kept) : Type 0 where
  pub fault : StuckAt
  pub listed : slice_get plan.faults (fault_number kept.fault) ≡ Some fault
  pub keeps : Keeps design plan fault kept

-- so it is of each fault of a shard: as far as it has gone, and wholly where the good first run has no further slot
abbrev pub StandsKept : FlatDesign → TestPlan → KeepingShard → Type 0
StandsKept design plan shard = AllHold (KeptStands design plan shard.gone) shard.kept

abbrev pub KeepsAll : FlatDesign → TestPlan → KeepingShard → Type 0
KeepsAll design plan shard = length (good_slots design plan) ≡ shard.gone → AllHold (KeptWhole design plan) shard.kept

-- the own steps that a fault takes up to behind so many slots of the good first run, where no strobe ends its grading
abbrev pub steps_of_kept : {design : FlatDesign} {plan : TestPlan} → OwnStepsOf design plan → ℕ → Kept → ℕ
steps_of_kept tally gone kept = tally.steps (fault_number kept.fault) true gone

-- those of all faults of a shard
abbrev pub kept_steps_of : {design : FlatDesign} {plan : TestPlan} → OwnStepsOf design plan → KeepingShard → ℕ
kept_steps_of tally shard = sum_by (steps_of_kept tally shard.gone) shard.kept

-- all that the fault of a number takes: through the end of its full grade, or to the plan's end
abbrev pub full_steps_at : {design : FlatDesign} {plan : TestPlan} → OwnStepsOf design plan → ℕ → ℕ
full_steps_at tally number = tally.all number true

-- the listed faults whose machines go on
abbrev pub open_kept : TestPlan → Kept → Option StuckAt
open_kept plan kept = elim kept.end [ None ↦ slice_get plan.faults (fault_number kept.fault) | Some end ↦ None ]

abbrev pub open_in : TestPlan → List Kept → List StuckAt
open_in plan kept = filter_map (open_kept plan) kept
