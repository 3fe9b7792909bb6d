-- The steps that were taken in one of the slots (steps by IEEE 1364-2001, clause 9; slots by clause 5).
use Rattle.std.proofs.Common.{◌≡◌, ℕ, zero, suc, ◌+◌, ◌<◌, ◌≤◌, Bool, true, false, cond, ◌&&◌, List, [], ◌∷◌, ◌++◌, length, map, refl, sym, ap, subst, ◌∙◌, arith, inl, inr, ◌⊎◌}
use Rattle.std.specs.Prelude.{Option, Some, None, filter, nat_le, slice_get, if◌then◌else◌}
use Rattle.std.proofs.lemmas.Bool.{cases_lt, le-leb}
use Rattle.vf_base.specs.Lists.{joined}
use Rattle.v_design.specs.Designs.{FlatDesign, StuckAt, TestPlan, good_machine, faulty_machine}
use Rattle.v_design.specs.Grades.{Phase, phases}
use Rattle.v_design.specs.Laws.{BeginsPhase}
use Rattle.v_design.specs.OwnSteps.{ProcessRun, phases_if, slot_beside}
use Rattle.v_design.specs.Runs.{FirstSlot, first_run}
use Rattle.v_design.specs.States.{State}
use Rattle.v_design.specs.WellFormed.{KeepsRules}
use Rattle.order_laws.specs.FirstRuns.{FirstRunsGoOn, Rise}
use Rattle.machine_laws.specs.SlotLoop.{SlotsBegin, slot_from}
use Rattle.copy_laws.specs.Windows.{comes_after, comes_by, good_slots, runs_between, slots_between, time_at}
use Rattle.good_runs.specs.declared.tried.TriedStep.{TriedStep}
use Rattle.machine.specs.Standing.{BeginsInFirstRun}
use Rattle.own_counts.specs.Counts.{AtMostOwn, OwnStepsCount}
use Rattle.own_counts.specs.Joins.{fault_end}
use Rattle.own_slots.specs.Slots.{TriedStepsGoOn, WereTried}
use Rattle.beside_laws.specs.GoodRuns.{GoodRunGoesOn}
use Rattle.window_grade.specs.Beside.{WereTaken, slot_at, tried_in}
use Rattle.window_grade.specs.declared.beside.RunBeside.{RunBeside}
use Rattle.window_beside.specs.Tried.{IsTriedAt, MayTry, WasTried}
use Rattle.window_beside.proofs.Finding.{rise-at, slot-found}
use Rattle.window_beside.proofs.Times.{next-after, stands-by}

-- A bound of one slot is one of a stretch in which it lies

module _ (count : OwnStepsCount) (f : FirstSlot → List (Option ProcessRun × ProcessRun)) (test : FirstSlot → Bool) where
  wider : (before now after : List (Option ProcessRun × ProcessRun)) (n : ℕ) → AtMostOwn now n → AtMostOwn (before ++ (now ++ after)) n
  wider before now after n bound =
      let none : AtMostOwn before 0 = λ counts zip. omega arith in
      let rest : AtMostOwn after 0 = λ counts zip. omega arith in
      let all = count.joins before (now ++ after) 0 (n + 0) none (count.joins now after n 0 bound rest) in
      count.less (before ++ (now ++ after)) (0 + (n + 0)) n (omega arith) all

  same-slot : (x y : FirstSlot) → Some x ≡ Some y → x ≡ y
  same-slot x y e = cc

  pub of-one : (slots : List FirstSlot) (k : ℕ) (slot : FirstSlot) (n : ℕ) → slice_get slots k ≡ Some slot → test slot ≡ true → AtMostOwn (f slot) n → AtMostOwn (joined (map f (filter test slots))) n
  of-one [] k slot n here passes bound = cc
  of-one (x ∷ slots) zero slot n here passes bound =
      let same : x ≡ slot = same-slot x slot here in
      subst (λ b. AtMostOwn (joined (map f (cond b (x ∷ filter test slots) (filter test slots)))) n) (sym (ap test same ∙ passes))
      (wider [] (f x) (joined (map f (filter test slots))) n (subst (λ (s : FirstSlot). AtMostOwn (f s) n) (sym same) bound))
  of-one (x ∷ slots) (suc k) slot n here passes bound = go (test x) (of-one slots k slot n here passes bound)
    where
      go : (b : Bool) → AtMostOwn (joined (map f (filter test slots))) n → AtMostOwn (joined (map f (cond b (x ∷ filter test slots) (filter test slots)))) n
      go true more =
          let none : AtMostOwn (f x) 0 = λ counts zip. omega arith in
          count.less (f x ++ joined (map f (filter test slots))) (0 + n) n (omega arith) (count.joins (f x) (joined (map f (filter test slots))) 0 n none more)
      go false more = more

-- Between two times

if-none : (n : ℕ) (b : Bool) → n ≡ 0 → (if b then n else 0) ≡ 0
if-none n true e = e
if-none n false e = refl

none-in : (beside : RunBeside) → beside.tried.now ≡ [] → (from until : Option ℕ) → tried_in beside from until ≡ 0
none-in beside none from until = if-none (length beside.tried.now) (comes_after from beside.time && comes_by until beside.time) (ap length none)

pub nothing-in : (beside : RunBeside) (from until : Option ℕ) → beside.tried.now ≡ [] → tried_in beside from until ≡ length beside.tried.now
nothing-in beside from until none = none-in beside none from until ∙ sym (ap length none)

module _ (law : FirstRunsGoOn) (run : GoodRunGoesOn) (begin : SlotsBegin) (count : OwnStepsCount) (go : TriedStepsGoOn) (design : FlatDesign) (plan : TestPlan) (fault : StuckAt)
    (beside : RunBeside) (gone : ℕ) (rules : KeepsRules design) where
  -- nothing was taken
  pub none-taken : beside.tried.now ≡ [] → WereTaken design plan fault beside
  none-taken none = record {
    own = λ from until counts zip. (let zero = none-in beside none from until in omega (arith, zero));
    tried = λ begins at phase in_run.
        subst (WereTried (good_machine design) (faulty_machine design fault) (phases_if (good_machine design) (slot_at (first_run (good_machine design) plan.end) begins.time)) begins) (sym none)
        (go.none (good_machine design) (faulty_machine design fault) (phases_if (good_machine design) (slot_at (first_run (good_machine design) plan.end) begins.time)) begins
        (begin (faulty_machine design fault) begins phase));
  }

  -- these steps were
  module _ (was : WasTried design plan gone fault beside.tried.now) (tried_at : IsTriedAt design plan gone beside.time) where
    at : beside.time ≡ was.slot.begins.time
    at = tried_at was.slot was.stands

    found : slot_at (first_run (good_machine design) plan.end) was.begins.time ≡ Some was.slot
    found = ap (slot_at (first_run (good_machine design) plan.end)) was.at_time ∙ slot-found law design plan rules gone was.slot was.stands

    -- within its slot they are at most its own steps
    own-slot : AtMostOwn (slot_beside (good_machine design) (faulty_machine design fault) (first_run (good_machine design) plan.end) (slot_from (faulty_machine design fault) was.begins)) (length beside.tried.now)
    own-slot = go.within (good_machine design) (faulty_machine design fault) (first_run (good_machine design) plan.end) (Some was.slot) was.begins beside.tried.now found was.were

    own-between : (from until : Option ℕ) → AtMostOwn (runs_between design plan from until fault) (tried_in beside from until)
    own-between from until = by (comes_after from beside.time) (comes_by until beside.time) refl refl
      where
        same-time : beside.time ≡ was.begins.time
        same-time = at ∙ sym was.at_time

        in-run : slice_get (first_run (faulty_machine design fault) plan.end) was.in_run.number ≡ Some (slot_from (faulty_machine design fault) was.begins)
        in-run =
            let early : was.slot.begins.time ≤ plan.end = run.within design plan gone was.slot rules was.stands in
            let same : was.begins.time ≡ was.slot.begins.time = was.at_time in
            was.in_run.stands plan.end (omega (arith, early, same))

        both : (a b c : Bool) → a ≡ true → b ≡ true → c ≡ true → ((a && b) && c) ≡ true
        both a b c x y z = (λ i. (x i && y i) && z i)

        by : (a b : Bool) → comes_after from beside.time ≡ a → comes_by until beside.time ≡ b →
            AtMostOwn (runs_between design plan from until fault) (if comes_after from beside.time && comes_by until beside.time then length beside.tried.now else 0)
        by true true x y =
            subst (AtMostOwn (runs_between design plan from until fault)) (sym (λ i. if x i && y i then length beside.tried.now else 0))
            (of-one count (slot_beside (good_machine design) (faulty_machine design fault) (first_run (good_machine design) plan.end))
            (λ (slot : FirstSlot). (comes_after from slot.begins.time && comes_by until slot.begins.time) && nat_le slot.begins.time (fault_end design plan fault))
            (first_run (faulty_machine design fault) plan.end) was.in_run.number (slot_from (faulty_machine design fault) was.begins) (length beside.tried.now) in-run
            (both (comes_after from was.begins.time) (comes_by until was.begins.time) (nat_le was.begins.time (fault_end design plan fault))
            (ap (comes_after from) (sym same-time) ∙ x) (ap (comes_by until) (sym same-time) ∙ y) (le-leb was.begins.time (fault_end design plan fault) was.within))
            own-slot)
        by true false x y = subst (AtMostOwn (runs_between design plan from until fault)) (sym (λ i. if x i && y i then length beside.tried.now else 0)) (λ counts zip. omega arith)
        by false b x y =
            subst (AtMostOwn (runs_between design plan from until fault)) (sym (λ i. if x i && comes_by until beside.time then length beside.tried.now else 0)) (λ counts zip. omega arith)

    -- a state that begins a slot of that time is that one
    one-state : (begins : State) → begins.time ≡ beside.time → BeginsInFirstRun (faulty_machine design fault) begins → was.begins ≡ begins
    one-state begins time other =
        let same : slot_from (faulty_machine design fault) was.begins ≡ slot_from (faulty_machine design fault) begins = elim (cases_lt was.in_run.number other.number) [
          | inl less ↦
              absurd (let rise = rise-at (first_run (faulty_machine design fault) begins.time) rising was.in_run.number other.number _ _ less there here in omega (arith, rise, early))
          | inr by ↦ elim (cases_lt other.number was.in_run.number) [
            | inl less ↦
                absurd (let rise = rise-at (first_run (faulty_machine design fault) begins.time) rising other.number was.in_run.number _ _ less here there in omega (arith, rise, early))
            | inr low ↦
                let number : was.in_run.number ≡ other.number = omega (arith, by, low) in
                some-slot (slot_from (faulty_machine design fault) was.begins) (slot_from (faulty_machine design fault) begins)
                (sym there ∙ ap (slice_get (first_run (faulty_machine design fault) begins.time)) number ∙ here)
          ]
        ] in
        ap (λ (s : FirstSlot). s.begins) same
      where
        rising : Rise (first_run (faulty_machine design fault) begins.time)
        rising = law.rise (faulty_machine design fault) begins.time rules

        early : was.begins.time ≡ begins.time
        early = (let a = was.at_time in let b = at in omega (arith, a, b, time))

        some-slot : (x y : FirstSlot) → Some x ≡ Some y → x ≡ y
        some-slot x y e = cc

        here : slice_get (first_run (faulty_machine design fault) begins.time) other.number ≡ Some (slot_from (faulty_machine design fault) begins)
        here = other.stands begins.time (omega arith)

        there : slice_get (first_run (faulty_machine design fault) begins.time) was.in_run.number ≡ Some (slot_from (faulty_machine design fault) was.begins)
        there = was.in_run.stands begins.time (let e = early in omega (arith, e))

    were-there : (begins : State) → begins.time ≡ beside.time → BeginsInFirstRun (faulty_machine design fault) begins →
        WereTried (good_machine design) (faulty_machine design fault) (phases_if (good_machine design) (slot_at (first_run (good_machine design) plan.end) begins.time)) begins beside.tried.now
    were-there begins time in_run =
        subst (λ (s : State). WereTried (good_machine design) (faulty_machine design fault) (phases_if (good_machine design) (slot_at (first_run (good_machine design) plan.end) s.time)) s beside.tried.now)
        (one-state begins time in_run)
        (subst (λ (l : List Phase). WereTried (good_machine design) (faulty_machine design fault) l was.begins beside.tried.now) (sym (ap (phases_if (good_machine design)) found)) was.were)

    was-taken : WereTaken design plan fault beside
    was-taken = record { own = own-between; tried = λ begins time phase in_run. were-there begins time in_run }

  pub taken : MayTry design plan gone fault beside.tried.now → IsTriedAt design plan gone beside.time → WereTaken design plan fault beside
  taken may time = elim may [ inl none ↦ none-taken none | inr was ↦ was-taken was time ]

  -- all were taken from the slots before it on
  pub all-in : (end : ℕ) → MayTry design plan gone fault beside.tried.now → IsTriedAt design plan gone beside.time → gone < end →
      tried_in beside (time_at design plan gone) (time_at design plan end) ≡ length beside.tried.now
  all-in end may time more = elim may [
    | inl none ↦ nothing-in beside (time_at design plan gone) (time_at design plan end) none
    | inr was ↦
        (λ i. if comes_after (time_at design plan gone) (time was.slot was.stands i) && comes_by (time_at design plan end) (time was.slot was.stands i) then length beside.tried.now else 0)
        ∙ (λ i. if next-after law run design plan rules gone was.slot was.stands i && stands-by law run design plan rules end gone was.slot more was.stands i then length beside.tried.now else 0)
  ]
