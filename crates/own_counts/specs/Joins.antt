-- Bounds by own steps of phases, slots and stretches of slots, one behind the other (steps by IEEE 1364-2001, clause 9; slots and phases by clause 5).
use Rattle.std.specs.Prelude.{◌≡◌, ℕ, ◌+◌, ◌≤◌, true, List, [], ◌∷◌, ◌++◌, map, length, Option, Some, slice_get}
use Rattle.vf_base.specs.Lists.{joined}
use Rattle.v_design.specs.Designs.{FlatDesign, Machine, StuckAt, TestPlan, good_machine, faulty_machine}
use Rattle.v_design.specs.Grades.{Phase}
use Rattle.v_design.specs.OwnSteps.{ProcessRun, beside, grading_end, phase_beside, slot_beside}
use Rattle.v_design.specs.Runs.{FirstSlot, first_run}
use Rattle.copy_laws.specs.Windows.{comes_by, runs_between, slots_between}
use Rattle.own_counts.specs.Counts.{AtMostOwn}

-- the runs of some phases of a faulty machine, each phase beside the one of its number among the good machine's
abbrev pub phases_beside : Machine → Machine → List Phase → List Phase → List (Option ProcessRun × ProcessRun)
phases_beside good faulty others phases = joined (map (λ (pair : Option Phase × Phase). phase_beside good faulty pair.0 pair.1) (beside others phases))

-- what comes by one time comes by another
abbrev pub IsByToo : Option ℕ → Option ℕ → Type 0
IsByToo one other = (time : ℕ) → comes_by one time ≡ true → comes_by other time ≡ true

-- when the grading of a fault ends
abbrev pub fault_end : FlatDesign → TestPlan → StuckAt → ℕ
fault_end design plan fault = grading_end (good_machine design) (faulty_machine design fault) plan (first_run (good_machine design) plan.end) (first_run (faulty_machine design fault) plan.end)

-- The laws
pub record OwnStepsJoin : Type 0 where
  -- a phase more of a slot
  pub phases : (good faulty : Machine) (others before : List Phase) (phase : Phase) (ticked more : ℕ) → AtMostOwn (phases_beside good faulty others before) ticked →
      AtMostOwn (phase_beside good faulty (slice_get others (length before)) phase) more → AtMostOwn (phases_beside good faulty others (before ++ phase ∷ [])) (ticked + more)
  -- no slot between two times, or one
  pub none : (design : FlatDesign) (plan : TestPlan) (fault : StuckAt) (from until : Option ℕ) → slots_between design plan fault from until ≡ [] →
      AtMostOwn (runs_between design plan from until fault) 0
  pub slot : (design : FlatDesign) (plan : TestPlan) (fault : StuckAt) (from until : Option ℕ) (slot : FirstSlot) (ticked : ℕ) → slots_between design plan fault from until ≡ slot ∷ [] →
      AtMostOwn (slot_beside (good_machine design) (faulty_machine design fault) (first_run (good_machine design) plan.end) slot) ticked → AtMostOwn (runs_between design plan from until fault) ticked
  -- a stretch and the next one
  pub joins : (design : FlatDesign) (plan : TestPlan) (fault : StuckAt) (from between until : Option ℕ) (ticked more : ℕ) → IsByToo from between → IsByToo between until →
      AtMostOwn (runs_between design plan from between fault) ticked → AtMostOwn (runs_between design plan between until fault) more →
      AtMostOwn (runs_between design plan from until fault) (ticked + more)
  -- behind the end of its grading a fault takes no own steps
  pub over : (design : FlatDesign) (plan : TestPlan) (fault : StuckAt) (time : ℕ) (until : Option ℕ) → fault_end design plan fault ≤ time →
      AtMostOwn (runs_between design plan (Some time) until fault) 0
