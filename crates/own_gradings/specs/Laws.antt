-- The own steps of faults from slot to slot of the good first run (steps by IEEE 1364-2001, clause 9; slots by clause 5).
use Rattle.std.specs.Prelude.{◌≡◌, ◌⊎◌, ℕ, ◌+◌, ◌≤◌, Bool, true, List, ◌∷◌, [], ◌++◌, Option, Some, map, slice_get, sum, sum_by}
use Rattle.std.specs.List.{AllZip, Contains}
use Rattle.vf_base.specs.Lists.{joined}
use Rattle.v_design.specs.Designs.{FlatDesign, StuckAt, TestPlan, good_machine, faulty_machine}
use Rattle.v_design.specs.Runs.{FirstSlot, first_run}
use Rattle.v_design.specs.OwnSteps.{CountsOwn, ProcessRun, TakesOwnSteps, slot_beside}
use Rattle.v_design.specs.WellFormed.{KeepsRules}
use Rattle.copy_laws.specs.Windows.{HasEnded, RiseAtMostOwn, comes_after, comes_by, runs_between, time_at}
use Rattle.fault_strobes.specs.Said.{plan_by}
use Rattle.own_gradings.specs.Numbers.{OwnStepsOf, TakesOwn}

-- no number is greater than what some runs count as own
abbrev pub AreAtLeast : List (Option ProcessRun × ProcessRun) → ℕ → Type 0
AreAtLeast pairs steps = (counts : List ℕ) → AllZip CountsOwn pairs counts → steps ≤ sum counts

-- of the faults of some numbers these are those that go on, in order; each other one takes no own step in between
abbrev pub GoOn : (design : FlatDesign) (plan : TestPlan) → OwnStepsOf design plan → Bool → ℕ → ℕ → List ℕ → List StuckAt → Type 0
GoOn design plan own kept from until [] faults = Unit {0}
GoOn design plan own kept from until (number ∷ numbers) faults =
    ((own.steps number kept until ≡ own.steps number kept from) × GoOn design plan own kept from until numbers faults)
    ⊎ ((fault : StuckAt) × (rest : List StuckAt) × (faults ≡ fault ∷ rest) × (slice_get plan.faults number ≡ Some fault) × GoOn design plan own kept from until numbers rest)

pub record OwnStepsRise : Type 0 where
  -- before the first slot there is none
  pub begins : (design : FlatDesign) (plan : TestPlan) (own : OwnStepsOf design plan) (number : ℕ) (fault : StuckAt) (kept : Bool) → slice_get plan.faults number ≡ Some fault →
      own.steps number kept 0 ≡ 0
  -- behind more slots there are no fewer
  pub rises : (design : FlatDesign) (plan : TestPlan) (own : OwnStepsOf design plan) (number : ℕ) (fault : StuckAt) (kept : Bool) (from until : ℕ) → slice_get plan.faults number ≡ Some fault →
      KeepsRules design → from ≤ until → own.steps number kept from ≤ own.steps number kept until
  -- those of the slots in between come on top: a counter that rose by no more is told by the numbers, and the numbers by those of the stretch
  pub stretch : (design : FlatDesign) (plan : TestPlan) (own : OwnStepsOf design plan) (number : ℕ) (fault : StuckAt) (kept : Bool) (from until before after : ℕ) →
      slice_get plan.faults number ≡ Some fault → KeepsRules design → from ≤ until → RiseAtMostOwn design (plan_by kept plan) from until (fault ∷ []) before after →
      after + own.steps number kept from ≤ before + own.steps number kept until
  pub between : (design : FlatDesign) (plan : TestPlan) (own : OwnStepsOf design plan) (number : ℕ) (fault : StuckAt) (kept : Bool) (from until : ℕ) (counts : List ℕ) →
      slice_get plan.faults number ≡ Some fault → KeepsRules design → from ≤ until →
      AllZip CountsOwn (runs_between design (plan_by kept plan) (time_at design plan from) (time_at design plan until) fault) counts →
      own.steps number kept until ≡ own.steps number kept from + sum counts
  -- what several faults take in between is what the runs of those that go on count
  pub go_on : (design : FlatDesign) (plan : TestPlan) (own : OwnStepsOf design plan) (kept : Bool) (from until : ℕ) (numbers : List ℕ) (faults : List StuckAt) (counts : List ℕ) →
      KeepsRules design → from ≤ until → GoOn design plan own kept from until numbers faults →
      AllZip CountsOwn (joined (map (runs_between design (plan_by kept plan) (time_at design plan from) (time_at design plan until)) faults)) counts →
      sum_by (λ (number : ℕ). own.steps number kept until) numbers ≤ sum_by (λ (number : ℕ). own.steps number kept from) numbers + sum counts
  -- behind the end of its grading a fault takes none
  pub over : (design : FlatDesign) (plan : TestPlan) (own : OwnStepsOf design plan) (number : ℕ) (fault : StuckAt) (kept : Bool) (from until time : ℕ) → slice_get plan.faults number ≡ Some fault →
      KeepsRules design → from ≤ until → time_at design plan from ≡ Some time → HasEnded design (plan_by kept plan) fault time → own.steps number kept until ≡ own.steps number kept from
  -- and at no time more than to its end; these are all
  pub within : (design : FlatDesign) (plan : TestPlan) (own : OwnStepsOf design plan) (number : ℕ) (fault : StuckAt) (kept : Bool) (gone : ℕ) → slice_get plan.faults number ≡ Some fault →
      own.steps number kept gone ≤ own.all number kept
  pub total : (design : FlatDesign) (plan : TestPlan) (own : OwnStepsOf design plan) (number : ℕ) (fault : StuckAt) (kept : Bool) (steps : ℕ) → slice_get plan.faults number ≡ Some fault →
      TakesOwnSteps design (plan_by kept plan) fault steps → own.all number kept ≡ steps
  -- so are those of several listed faults
  pub sums : (design : FlatDesign) (plan : TestPlan) (own : OwnStepsOf design plan) (kept : Bool) (numbers steps : List ℕ) →
      ((number : ℕ) → Contains numbers number → (fault : StuckAt) × (slice_get plan.faults number ≡ Some fault)) → AllZip (TakesOwn design plan kept) numbers steps →
      sum_by (λ (number : ℕ). own.all number kept) numbers ≡ sum steps
  -- there are such numbers, as far as any bound is concerned
  pub exist : (design : FlatDesign) (plan : TestPlan) (low high : ℕ) → (OwnStepsOf design plan → low ≤ high) → low ≤ high
  -- a slot of a stretch, not after the end of the grading: what it counts at least the stretch does
  pub slot : (design : FlatDesign) (plan : TestPlan) (fault : StuckAt) (from until : Option ℕ) (behind ahead : List FirstSlot) (slot : FirstSlot) (steps : ℕ) →
      first_run (faulty_machine design fault) plan.end ≡ behind ++ slot ∷ ahead → comes_after from slot.begins.time ≡ true → comes_by until slot.begins.time ≡ true →
      ((ended : ℕ) → HasEnded design plan fault ended → slot.begins.time ≤ ended) →
      AreAtLeast (slot_beside (good_machine design) (faulty_machine design fault) (first_run (good_machine design) plan.end) slot) steps → AreAtLeast (runs_between design plan from until fault) steps
