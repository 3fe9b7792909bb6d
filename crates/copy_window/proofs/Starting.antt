-- Where the grading of a fault stands at the beginning of a window (strobes and slots by IEEE 1364-2001, clause 5).
use Rattle.std.proofs.Common.{◌≡◌, ℕ, zero, suc, ◌+◌, ◌<◌, ◌≤◌, List, [], ◌++◌, map, length, take, drop, refl, sym, ap, subst, ◌∙◌, arith}
use Rattle.std.specs.Prelude.{Option, Some, None, option_map, slice_get}
use Rattle.std.proofs.lemmas.List.{take-append-drop}
use Rattle.std.proofs.lemmas.Option.{slice_get_within}
use Rattle.vf_base.specs.Lists.{AllHold}
use Rattle.vf_base.specs.declared.finding.End.{End}
use Rattle.v_design.specs.Designs.{FlatDesign, StuckAt, TestPlan, good_machine, faulty_machine}
use Rattle.v_design.specs.Grades.{FaultGrade}
use Rattle.v_design.specs.Plain.{grade_of}
use Rattle.v_design.specs.Runs.{FirstSlot}
use Rattle.v_design.specs.States.{State, turn_of}
use Rattle.v_design.specs.WellFormed.{IsPlan, KeepsRules}
use Rattle.process_code.specs.declared.code.Code.{Code}
use Rattle.run_ends.specs.RunEnds.{AreCodesOf}
use Rattle.kept_samples.specs.Plain.{sample_of}
use Rattle.between_slots.specs.Between.{state_through}
use Rattle.copy_laws.specs.Differences.{Differences, StandsFor, KeepsNothingEqual}
use Rattle.copy_laws.specs.Windows.{FaultBeside, HasEnded, IsBesideAt, IsWindow, WindowEnd, IsCopyAt, good_slots, time_at, state_at}
use Rattle.copy_state.specs.Kept.{differences_of}
use Rattle.copy_between.specs.Beside.{IsCopyOf}
use Rattle.copy_room.specs.Rooms.{CanEnter, HasEntered}
use Rattle.grade_laws.specs.Grading.{good_seen, faulty_seen, times}
use Rattle.copy_room.specs.machine.Standing.{machine_kept, state_kept, slot_after}
use Rattle.copy_room.specs.machine.declared.parts.Machine.{Machine as Simulated}
use Rattle.fault_grade.specs.Benches.{IsObjectOf}
use Rattle.fault_strobes.specs.Said.{IsSaid, Said, SaysNothing, keeps, plan_by}
use Rattle.fault_strobes.specs.Strobes.{StrobesGoOn, StrobedGradingsGoOn}
use Rattle.fault_strobes.proofs.Faults.{copy-back, time-same}
use Rattle.beside_laws.specs.Shards.{FaultsGoOn}
use Rattle.window_grade.specs.Grading.{IsGradingAt}
use Rattle.window_grade.specs.Running.{IsRunningAt}
use Rattle.window_grade.specs.Standing.{MachinesStand}
use Rattle.window_strobes.specs.Strobes.{AreStrobesOf, strobes_left}
use Rattle.window_strobes.specs.declared.strobes.WindowStrobes.{WindowStrobes}
use Rattle.copy_window.specs.Copies.{differences_in}
use Rattle.copy_window.specs.Passing.{CanBegin, CanResume, IsGradingFrom}
use Rattle.copy_window.specs.ShardFaults.{GoesOnAt, beside_by, kept_by, said_by}
use Rattle.copy_window.specs.declared.fault.ShardFault.{ShardFault}
use Rattle.copy_window.proofs.Codes.{differences-are}
use Rattle.copy_window.proofs.Windows.{next-are, bits-are, stop-after}

some-is : {A : Type 0} (one other : A) → Some one ≡ Some other → one ≡ other
some-is one other e = cc

-- what a grading stands on
pub record HasRules (design : FlatDesign) (plan : TestPlan) : Type 0 where
  pub design_rules : KeepsRules design
  pub of_plan : IsPlan plan
  pub watched : AllHold (IsObjectOf design) plan.watched

module _ (design : FlatDesign) (plan : TestPlan) (fault : StuckAt) (before through : ℕ) (strobes : WindowStrobes) (are : AreStrobesOf design plan before through strobes) where
  -- the grading of a machine that stands at a time
  from : (m : Simulated) (said : Said) → HasRules design plan → (now : Option ℕ) (passed : List ℕ) → IsRunningAt design plan fault now m →
      StrobesGoOn design plan fault now passed (times (map sample_of strobes.samples.items) ++ strobes_left plan strobes) said →
      IsGradingAt design plan fault now m (map sample_of strobes.samples.items) (strobes_left plan strobes) said
  from m said rules now passed at grading = record {
    design_rules = rules.design_rules;
    rules = rules.of_plan;
    watched = rules.watched;
    passed = passed;
    at = at;
    grading = grading;
    bits = bits-are design plan before through strobes are;
    before = stop-after design plan before through strobes are;
  }

  -- before the first slot
  pub begins : StrobedGradingsGoOn → (m : Simulated) (said : Said) → HasRules design plan → before ≡ 0 → IsRunningAt design plan fault None m → SaysNothing said →
      IsGradingFrom design plan fault before strobes m said
  begins law m said rules at_start at nothing =
      let none : strobes.passed ≡ 0 = are.has_passed.none at_start in
      let all : plan.strobes ≡ times (map sample_of strobes.samples.items) ++ strobes_left plan strobes =
      sym (ap (λ n. drop n plan.strobes) none) ∙ next-are design plan before through strobes are in
      subst (λ n. IsGradingAt design plan fault (time_at design plan n) m (map sample_of strobes.samples.items) (strobes_left plan strobes) said) (sym at_start)
      (from m said rules None [] at (subst (λ next. StrobesGoOn design plan fault None [] next said) all (law.begins design plan fault said nothing)))

  -- at a time at which the fault's copy was kept
  goes-from : (said : Said) → StrobedGradingsGoOn → FaultsGoOn → (time : ℕ) (beside : FaultBeside) → beside.fault ≡ fault → IsBesideAt design (plan_by (keeps said) plan) before beside →
      beside.found ≡ None → time_at design plan before ≡ Some time → before < length (good_slots design plan) →
      IsSaid (good_seen design plan) (faulty_seen design plan fault) (take strobes.passed plan.strobes) said →
      StrobesGoOn design plan fault (Some time) (take strobes.passed plan.strobes) (times (map sample_of strobes.samples.items) ++ strobes_left plan strobes) said
  goes-from said law faults time beside fault_is stands none e more so_far =
      let next = next-are design plan before through strobes are in
      law.again design plan fault time (take strobes.passed plan.strobes) (times (map sample_of strobes.samples.items) ++ strobes_left plan strobes) said
      (λ ended. faults.is_open design (plan_by (keeps said) plan) before time beside stands none (time-same design plan (keeps said) before ∙ e)
      (subst (λ f. HasEnded design (plan_by (keeps said) plan) f time) (sym fault_is) ended))
      (sym (take-append-drop strobes.passed plan.strobes) ∙ ap (λ l. take strobes.passed plan.strobes ++ l) next)
      (are.has_passed.early time e more)
      (subst (λ l. AllHold (λ strobe. time < strobe) l) next (are.has_passed.later time e more))
      so_far

-- so many slots, if there are some, lead to a time
pub some-time : (design : FlatDesign) (plan : TestPlan) (number : ℕ) → 0 < number → (time : ℕ) × (time_at design plan number ≡ Some time)
some-time design plan zero some = absurd (omega (arith, some))
some-time design plan (suc count) some = go (slice_get (good_slots design plan) (suc count)) (slice_get (good_slots design plan) count)
  where
    go : (next last : Option FirstSlot) → (time : ℕ) ×
        (elim next as (λ _. Option ℕ) [ None ↦ Some plan.end | Some later ↦ elim last as (λ _. Option ℕ) [ None ↦ Some plan.end | Some slot ↦ Some slot.begins.time ] ] ≡ Some time)
    go None last = (plan.end, refl)
    go (Some later) None = (plan.end, refl)
    go (Some later) (Some slot) = (slot.begins.time, refl)

-- before a slot of a window slots come
pub more-slots : (design : FlatDesign) (plan : TestPlan) (before through : ℕ) (ending : WindowEnd) → IsWindow design plan before through ending → (number : ℕ) → number < through →
    number < length (good_slots design plan)
more-slots design plan before zero ending window number within = absurd (omega (arith, within))
more-slots design plan before (suc last) ending window number within =
    let there : last < length (good_slots design plan) = slice_get_within (good_slots design plan) last window.last (window.stands last refl) in
    omega (arith, within, there)

module _ (design : FlatDesign) (plan : TestPlan) (fault : StuckAt) (before through : ℕ) (strobes : WindowStrobes) (own : ShardFault)
    (of : CanResume design plan before through strobes fault own) (more : before < length (good_slots design plan)) where
  pub time : ℕ
  time = (some-time design plan before of.some).0

  pub time_is : time_at design plan before ≡ Some time
  unfolding time some-time
  time_is = (some-time design plan before of.some).1

  fault_is : of.stands.fault ≡ fault
  fault_is = some-is of.stands.fault fault (sym of.stands.listed ∙ of.listed)

  pub goes-on : GoesOnAt design plan before strobes.passed fault time own
  goes-on = subst (λ (f : StuckAt). GoesOnAt design plan before strobes.passed f time own) fault_is (of.stands.goes_on time time_is more of.none)

  pub beside : IsBesideAt design (plan_by (kept_by own) plan) before (beside_by design fault own)
  beside = subst (λ (f : StuckAt). IsBesideAt design (plan_by (kept_by own) plan) before (beside_by design f own)) fault_is of.stands.beside

  pub none-found : option_map grade_of own.end ≡ None
  none-found = ap (option_map grade_of) of.none

  copy-at : IsCopyAt design plan fault time (differences_in design own.copy)
  copy-at =
      copy-back design plan fault (kept_by own) time (differences_in design own.copy) (beside.copy time (time-same design plan (kept_by own) before ∙ time_is) none-found)

  pub good_is : state_at (good_machine design) plan.end time ≡ state_through design plan before
  good_is = goes-on.runs_on.state_is

  module _ (codes : List Code) (are : AreCodesOf design codes) where
    pub is-copy : IsCopyOf codes (state_through design plan before) (state_at (faulty_machine design fault) plan.end time) own.copy
    is-copy = record {
      stands =
          subst (λ (d : Differences). StandsFor d (state_through design plan before) (state_at (faulty_machine design fault) plan.end time)) (sym (differences-are design codes own.copy are))
          (subst (λ (s : State). StandsFor (differences_in design own.copy) s (state_at (faulty_machine design fault) plan.end time)) good_is copy-at.stands);
      nothing_equal =
          subst (λ (d : Differences). KeepsNothingEqual d (state_through design plan before)) (sym (differences-are design codes own.copy are))
          (subst (λ (s : State). KeepsNothingEqual (differences_in design own.copy) s) good_is copy-at.nothing_equal);
      states = goes-on.states codes are;
    }

    -- its copy may be put into a room there
    abbrev pub can-enter : CanEnter codes design plan before fault own.time own.copy
    can-enter = record { faulty = state_at (faulty_machine design fault) plan.end time; between = goes-on.between; time_is = goes-on.time_is; copy = is-copy }

  -- in the room its grading goes on
  module _ (rules : HasRules design plan) (m : Simulated) (entered : HasEntered design fault (state_at (faulty_machine design fault) plan.end time) m) where
    grading : StrobedGradingsGoOn → FaultsGoOn →
        StrobesGoOn design plan fault (Some time) (take strobes.passed plan.strobes) (times (map sample_of strobes.samples.items) ++ strobes_left plan strobes) (said_by own)
    grading law faults =
        goes-from design plan fault before through strobes of.are (said_by own) law faults time (beside_by design fault own) refl beside none-found time_is more goes-on.so_far

    low : time ≤ plan.end
    low = let early : time < plan.end = goes-on.runs_on.early in omega (arith, early)

    running : MachinesStand → StrobedGradingsGoOn → FaultsGoOn → IsRunningAt design plan fault (Some time) m
    running stand law faults =
        stand.again design plan fault time m rules.design_rules low (grading law faults).faulty entered.machine_is entered.standing entered.state_is entered.stage
        (entered.next_is ∙ ap (λ (s : State). slot_after s (turn_of s)) (sym entered.state_is))

    pub resumes : MachinesStand → StrobedGradingsGoOn → FaultsGoOn → IsGradingFrom design plan fault before strobes m (said_by own)
    resumes stand law faults =
        subst (λ (now : Option ℕ). IsGradingAt design plan fault now m (map sample_of strobes.samples.items) (strobes_left plan strobes) (said_by own)) (sym time_is)
        (from design plan fault before through strobes of.are m (said_by own) rules (Some time) (take strobes.passed plan.strobes) (running stand law faults) (grading law faults))
