-- What contracts see of a shard, and what stands of it behind so many slots of the good first run (slots by IEEE 1364-2001, clause 5).
use Rattle.std.specs.Prelude.{◌≡◌, ℕ, Bool, true, false, not, List, map, Option, None, Some, is_some, option_map, slice_get, sum_by}
use Rattle.std.specs.List.{filter_map}
use Rattle.vf_base.specs.Lists.{AllHold}
use Rattle.vf_base.specs.declared.finding.End.{End}
use Rattle.vf_base.specs.declared.finding.Finding.{Finding}
use Rattle.v_design.specs.Designs.{FlatDesign, StuckAt, TestPlan}
use Rattle.v_design.specs.Plain.{grade_of}
use Rattle.copy_laws.specs.Windows.{IsBesideAt}
use Rattle.copy_state.specs.Kept.{CopyKept, nothing_kept}
use Rattle.shard_windows.specs.copy_window.Copies.{differences_in}
use Rattle.own_gradings.specs.Numbers.{OwnStepsOf}

-- a fault of a shard: what is kept of its faulty machine's state, and how its grading ended, if it did
pub record FaultKept : Type 0 where
  pub copy : CopyKept
  pub end : Option End

-- a shard: through how many slots of the good first run it has gone, and its faults
pub record ShardKept : Type 0 where
  pub gone : ℕ
  pub faults : List FaultKept

-- the own steps that a fault takes up to behind so many slots of the good first run
abbrev pub kept_steps : {design : FlatDesign} {plan : TestPlan} → OwnStepsOf design plan → ℕ → FaultKept → ℕ
kept_steps tally gone kept = tally.steps kept.copy.fault false gone

-- those of all faults of a shard
abbrev pub shard_steps : {design : FlatDesign} {plan : TestPlan} → OwnStepsOf design plan → ShardKept → ℕ
shard_steps tally kept = sum_by (kept_steps tally kept.gone) kept.faults

-- all that the fault of a number in a plan takes
abbrev pub fault_steps_at : {design : FlatDesign} {plan : TestPlan} → OwnStepsOf design plan → ℕ → ℕ
fault_steps_at tally number = tally.all number false

-- the listed faults whose gradings go on
abbrev pub open_fault : TestPlan → FaultKept → Option StuckAt
open_fault plan kept = elim kept.end [ None ↦ slice_get plan.faults kept.copy.fault | Some end ↦ None ]

abbrev pub open_in : TestPlan → List FaultKept → List StuckAt
open_in plan faults = filter_map (open_fault plan) faults

-- whether the grading of a fault goes on
abbrev pub goes_on : FaultKept → Bool
goes_on kept = not (is_some kept.end)

-- the places of some faults in the plan
abbrev pub places_of : List FaultKept → List ℕ
places_of faults = map (λ (kept : FaultKept). kept.copy.fault) faults

-- before the first slot nothing is kept of the fault of a number
abbrev pub fresh_fault : ℕ → FaultKept
fresh_fault number = record { copy = nothing_kept number; end = None }

abbrev pub fresh_shard : List ℕ → ShardKept
fresh_shard numbers = record { gone = 0; faults = map fresh_fault numbers }

-- the finding on a fault whose grading ended, and those on the faults whose gradings ended, in their order
abbrev pub finding_of : FaultKept → Option Finding
finding_of kept = option_map (λ (end : End). record { fault = record { 0 = kept.copy.fault }; end = end }) kept.end

abbrev pub findings_of : List FaultKept → List Finding
findings_of faults = filter_map finding_of faults

-- a fault whose grading ended stays as it is
abbrev pub StaysEnded : FaultKept → FaultKept → Type 0
StaysEnded old new = is_some old.end ≡ true → new ≡ old

-- it is listed, and stands as a fault does behind so many slots
pub record FaultStands (design : FlatDesign) (plan : TestPlan) (gone : ℕ) (kept : FaultKept) : Type 0 where
  pub fault : StuckAt
  pub listed : slice_get plan.faults kept.copy.fault ≡ Some fault
  pub beside : IsBesideAt design plan gone (record { fault = fault; differences = differences_in design kept.copy; found = option_map grade_of kept.end })

-- so does each fault of a shard
abbrev pub StandsBeside : FlatDesign → TestPlan → ShardKept → Type 0
StandsBeside design plan kept = AllHold (FaultStands design plan kept.gone) kept.faults
