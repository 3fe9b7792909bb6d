-- The good first run by its slots through its first stop, and the ends of its windows (slots by IEEE 1364-2001, clause 5).
use Rattle.std.proofs.Common.{◌≡◌, ◌≢◌, ℕ, zero, suc, ◌<◌, ◌≤◌, List, [], ◌∷◌, length, refl, sym, ap, subst, ◌∙◌, arith, inl, inr}
use Rattle.std.specs.Prelude.{Option, Some, None, slice_get}
use Rattle.std.proofs.lemmas.Option.{slice_get_cases, slice_get_within}
use Rattle.vf_base.specs.Base.{ReportedPair}
use Rattle.vf_base.specs.Lists.{AllHold}
use Rattle.v_design.specs.Designs.{FlatDesign, Machine, TestPlan, good_machine}
use Rattle.v_design.specs.States.{State, start}
use Rattle.v_design.specs.Runs.{FirstSlot, first_run, slot_end}
use Rattle.v_design.specs.Grades.{SlotOutcome, Fine, Race, Hyper, slot_outcome, first_stop}
use Rattle.v_design.specs.OwnSteps.{slots_through_stop}
use Rattle.v_design.specs.WellFormed.{KeepsRules}
use Rattle.order_laws.specs.FirstRuns.{Follow, Rise, FirstRunsGoOn}
use Rattle.between_slots.specs.Between.{state_through}
use Rattle.copy_laws.specs.Windows.{WindowEnd, IsOpen, IsThrough, IsRaced, IsWindow, good_slots, time_at, state_by, state_at}
use Rattle.grade_laws.specs.Ahead.{StopsAfter}
use Rattle.grade_laws.specs.Grading.{good_stop}
use Rattle.beside_laws.specs.GoodRuns.{IsOpenAt, IsAllAt, GoodRunGoesOn, WindowsEnd}
use Rattle.beside_laws.proofs.Runs.{state-begun, state-later, stop_by, stops-later}
use Rattle.beside_laws.proofs.Gradings.{run-within}

-- Lists

some-is : {A : Type 0} (one other : A) → Some one ≡ Some other → one ≡ other
some-is one other e = cc

all-at : (P : FirstSlot → Type 0) (slots : List FirstSlot) (number : ℕ) (slot : FirstSlot) → AllHold P slots → slice_get slots number ≡ Some slot → P slot
all-at P [] number slot all here = cc
all-at P (first ∷ slots) zero slot all here = subst P (some-is first slot here) all.0
all-at P (first ∷ slots) (suc number) slot all here = all-at P slots number slot all.1 here

-- later slots begin later
rise-at : (slots : List FirstSlot) (number other : ℕ) (slot later : FirstSlot) → Rise slots → slice_get slots number ≡ Some slot → slice_get slots other ≡ Some later → number ≤ other →
    slot.begins.time ≤ later.begins.time
rise-at [] number other slot later rise here there low = cc
rise-at (first ∷ slots) zero zero slot later rise here there low = let same : slot ≡ later = cc in subst (λ (s : FirstSlot). slot.begins.time ≤ s.begins.time) same (omega arith)
rise-at (first ∷ slots) zero (suc other) slot later rise here there low =
    let after : first.begins.time < later.begins.time = all-at (λ (s : FirstSlot). first.begins.time < s.begins.time) slots other later rise.0 there in
    subst (λ (s : FirstSlot). s.begins.time ≤ later.begins.time) (some-is first slot here) (omega (arith, after))
rise-at (first ∷ slots) (suc number) zero slot later rise here there low = absurd (omega (arith, low))
rise-at (first ∷ slots) (suc number) (suc other) slot later rise here there low = rise-at slots number other slot later rise.1 here there (omega (arith, low))

-- Slots through the first stop

-- the slots after one with an outcome
abbrev rest_by : Machine → List FirstSlot → SlotOutcome → List FirstSlot
rest_by machine slots outcome = elim outcome [ Fine ↦ slots_through_stop machine slots | Race pair ↦ [] | Hyper ↦ [] ]

through-all : (P : FirstSlot → Type 0) (machine : Machine) (slots : List FirstSlot) → AllHold P slots → AllHold P (slots_through_stop machine slots)
through-all P machine [] all = tt
through-all P machine (slot ∷ slots) all = (all.0, go (slot_outcome machine slot) (through-all P machine slots all.1))
  where
    go : (outcome : SlotOutcome) → AllHold P (slots_through_stop machine slots) → AllHold P (rest_by machine slots outcome)
    go Fine rest = rest
    go (Race pair) rest = tt
    go Hyper rest = tt

through-rise : (machine : Machine) (slots : List FirstSlot) → Rise slots → Rise (slots_through_stop machine slots)
through-rise machine [] rise = tt
through-rise machine (slot ∷ slots) rise =
    go (slot_outcome machine slot) (through-all (λ (later : FirstSlot). slot.begins.time < later.begins.time) machine slots rise.0, through-rise machine slots rise.1)
  where
    go : (outcome : SlotOutcome) → Rise (slot ∷ slots_through_stop machine slots) → Rise (slot ∷ rest_by machine slots outcome)
    go Fine rest = rest
    go (Race pair) rest = (tt, tt)
    go Hyper rest = (tt, tt)

-- a slot after which another comes
record IsFollowed (machine : Machine) (slots : List FirstSlot) (last next : FirstSlot) : Type 0 where
  fine : slot_outcome machine last ≡ Fine
  later : last.begins.time < next.begins.time
  stops : StopsAfter last.begins.time (first_stop machine slots)

followed-more : (machine : Machine) (first : FirstSlot) (slots : List FirstSlot) (last next : FirstSlot) → slot_outcome machine first ≡ Fine → IsFollowed machine slots last next →
    IsFollowed machine (first ∷ slots) last next
followed-more machine first slots last next fine f =
    record { fine = f.fine; later = f.later; stops = subst (StopsAfter last.begins.time) (sym (ap (stop_by machine first slots) fine)) f.stops }

followed : (machine : Machine) (slots : List FirstSlot) (number : ℕ) (last next : FirstSlot) → Rise slots → slice_get (slots_through_stop machine slots) number ≡ Some last →
    slice_get (slots_through_stop machine slots) (suc number) ≡ Some next → IsFollowed machine slots last next
followed machine [] number last next rise here there = cc
followed machine (first ∷ slots) zero last next rise here there = go (slot_outcome machine first) refl there
  where
    go : (outcome : SlotOutcome) → slot_outcome machine first ≡ outcome → slice_get (rest_by machine slots outcome) 0 ≡ Some next → IsFollowed machine (first ∷ slots) last next
    go Fine is e =
        subst (λ (s : FirstSlot). IsFollowed machine (first ∷ slots) s next) (some-is first last here)
        (record {
          fine = is;
          later = all-at (λ (s : FirstSlot). first.begins.time < s.begins.time) (slots_through_stop machine slots) 0 next
              (through-all (λ (s : FirstSlot). first.begins.time < s.begins.time) machine slots rise.0) e;
          stops = subst (StopsAfter first.begins.time) (sym (ap (stop_by machine first slots) is)) (stops-later machine first.begins.time slots rise.0);
        })
    go (Race pair) is e = cc
    go Hyper is e = cc
followed machine (first ∷ slots) (suc number) last next rise here there = go (slot_outcome machine first) refl here there (followed machine slots number last next rise.1)
  where
    go : (outcome : SlotOutcome) → slot_outcome machine first ≡ outcome → slice_get (rest_by machine slots outcome) number ≡ Some last →
        slice_get (rest_by machine slots outcome) (suc number) ≡ Some next →
        (slice_get (slots_through_stop machine slots) number ≡ Some last → slice_get (slots_through_stop machine slots) (suc number) ≡ Some next → IsFollowed machine slots last next) →
        IsFollowed machine (first ∷ slots) last next
    go Fine is e f rest = followed-more machine first slots last next is (rest e f)
    go (Race pair) is e f rest = cc
    go Hyper is e f rest = cc

none-left : (machine : Machine) (slots : List FirstSlot) → slice_get (slots_through_stop machine slots) 0 ≡ None → slots ≡ []
none-left machine [] e = refl
none-left machine (slot ∷ slots) e = cc

-- the last of them tells the first stop
last-stops : (machine : Machine) (slots : List FirstSlot) (number : ℕ) (last : FirstSlot) → slice_get (slots_through_stop machine slots) number ≡ Some last →
    slice_get (slots_through_stop machine slots) (suc number) ≡ None → first_stop machine slots ≡ stop_by machine last [] (slot_outcome machine last)
last-stops machine [] number last here none = cc
last-stops machine (first ∷ slots) zero last here none =
    go (slot_outcome machine first) none ∙ ap (λ (s : FirstSlot). stop_by machine s [] (slot_outcome machine s)) (some-is first last here)
  where
    go : (outcome : SlotOutcome) → slice_get (rest_by machine slots outcome) 0 ≡ None → stop_by machine first slots outcome ≡ stop_by machine first [] outcome
    go Fine e = ap (first_stop machine) (none-left machine slots e)
    go (Race pair) e = refl
    go Hyper e = refl
last-stops machine (first ∷ slots) (suc number) last here none = go (slot_outcome machine first) here none (last-stops machine slots number last)
  where
    go : (outcome : SlotOutcome) → slice_get (rest_by machine slots outcome) number ≡ Some last → slice_get (rest_by machine slots outcome) (suc number) ≡ None →
        (slice_get (slots_through_stop machine slots) number ≡ Some last → slice_get (slots_through_stop machine slots) (suc number) ≡ None →
        first_stop machine slots ≡ stop_by machine last [] (slot_outcome machine last)) →
        stop_by machine first slots outcome ≡ stop_by machine last [] (slot_outcome machine last)
    go Fine e f rest = rest e f
    go (Race pair) e f rest = cc
    go Hyper e f rest = cc

-- The state at a time

-- the slots after one that is fine begin after a time, where the next one does
stays-after : (machine : Machine) (time : ℕ) (state : State) (slots : List FirstSlot) →
    ((next : FirstSlot) → slice_get (slots_through_stop machine slots) 0 ≡ Some next → time < next.begins.time) → state_by machine state slots time ≡ state
stays-after machine time state [] h = refl
stays-after machine time state (slot ∷ slots) h = state-later machine time state slot slots (h slot refl)

-- the state at a time up to which these slots begin
stands-at : (machine : Machine) (state : State) (slots : List FirstSlot) (number time : ℕ) (last : FirstSlot) → Rise slots → slice_get (slots_through_stop machine slots) number ≡ Some last →
    slot_outcome machine last ≡ Fine → last.begins.time ≤ time →
    ((next : FirstSlot) → slice_get (slots_through_stop machine slots) (suc number) ≡ Some next → time < next.begins.time) → state_by machine state slots time ≡ slot_end machine last
stands-at machine state [] number time last rise here fine low h = cc
stands-at machine state (first ∷ slots) zero time last rise here fine low h =
    let same : first ≡ last = some-is first last here in
    let begun : first.begins.time ≤ time = subst (λ (s : FirstSlot). s.begins.time ≤ time) (sym same) low in
    let first_fine : slot_outcome machine first ≡ Fine = subst (λ (s : FirstSlot). slot_outcome machine s ≡ Fine) (sym same) fine in
    state-begun machine time state first slots begun
    ∙ stays-after machine time (slot_end machine first) slots (λ next e. h next (ap (λ o. slice_get (rest_by machine slots o) 0) first_fine ∙ e))
    ∙ ap (slot_end machine) same
stands-at machine state (first ∷ slots) (suc number) time last rise here fine low h =
    go (slot_outcome machine first) here h (stands-at machine (slot_end machine first) slots number time last rise.1)
  where
    go : (outcome : SlotOutcome) → slice_get (rest_by machine slots outcome) number ≡ Some last →
        ((next : FirstSlot) → slice_get (rest_by machine slots outcome) (suc number) ≡ Some next → time < next.begins.time) →
        (slice_get (slots_through_stop machine slots) number ≡ Some last → slot_outcome machine last ≡ Fine → last.begins.time ≤ time →
        ((next : FirstSlot) → slice_get (slots_through_stop machine slots) (suc number) ≡ Some next → time < next.begins.time) →
        state_by machine (slot_end machine first) slots time ≡ slot_end machine last) →
        state_by machine state (first ∷ slots) time ≡ slot_end machine last
    go Fine e k rest =
        let later : first.begins.time < last.begins.time = all-at (λ (s : FirstSlot). first.begins.time < s.begins.time) (slots_through_stop machine slots) number last
        (through-all (λ (s : FirstSlot). first.begins.time < s.begins.time) machine slots rise.0) e in
        state-begun machine time state first slots (omega (arith, later, low)) ∙ rest e fine low k
    go (Race pair) e k rest = cc
    go Hyper e k rest = cc

-- The good first run

module _ (law : FirstRunsGoOn) (design : FlatDesign) (plan : TestPlan) (rules : KeepsRules design) where
  rises : Rise (first_run (good_machine design) plan.end)
  rises = law.rise (good_machine design) plan.end rules

  slots-rise : Rise (good_slots design plan)
  slots-rise = through-rise (good_machine design) (first_run (good_machine design) plan.end) rises

  slots-within : AllHold (λ (slot : FirstSlot). slot.begins.time ≤ plan.end) (good_slots design plan)
  slots-within =
      through-all (λ (slot : FirstSlot). slot.begins.time ≤ plan.end) (good_machine design) (first_run (good_machine design) plan.end)
      (run-within law (good_machine design) plan.end rules)

  pub some-slots : 0 < length (good_slots design plan)
  some-slots = go (first_run (good_machine design) plan.end) (law.follow (good_machine design) plan.end rules)
    where
      go : (slots : List FirstSlot) → Follow (good_machine design) plan.end (Some (start (good_machine design))) slots → 0 < length (slots_through_stop (good_machine design) slots)
      go [] f = absurd f
      go (slot ∷ slots) f = omega arith

  first-slot : (slot : FirstSlot) → slice_get (good_slots design plan) 0 ≡ Some slot → slot.begins.time ≡ 0
  first-slot slot = go (first_run (good_machine design) plan.end) (law.follow (good_machine design) plan.end rules)
    where
      go : (slots : List FirstSlot) → Follow (good_machine design) plan.end (Some (start (good_machine design))) slots → slice_get (slots_through_stop (good_machine design) slots) 0 ≡ Some slot →
          slot.begins.time ≡ 0
      go [] f e = absurd f
      go (first ∷ slots) f e = ap (λ (s : FirstSlot). s.begins.time) (sym (some-is first slot e) ∙ f.0)

  run-stands : (number time : ℕ) (last : FirstSlot) → slice_get (good_slots design plan) number ≡ Some last → slot_outcome (good_machine design) last ≡ Fine → last.begins.time ≤ time →
      ((next : FirstSlot) → slice_get (good_slots design plan) (suc number) ≡ Some next → time < next.begins.time) →
      state_at (good_machine design) plan.end time ≡ state_through design plan (suc number)
  run-stands number time last here fine low h =
      stands-at (good_machine design) (start (good_machine design)) (first_run (good_machine design) plan.end) number time last rises here fine low h
      ∙ sym (ap (λ (o : Option FirstSlot). elim o [ None ↦ start (good_machine design) | Some s ↦ slot_end (good_machine design) s ]) here)

  run-followed : (number : ℕ) (last next : FirstSlot) → slice_get (good_slots design plan) number ≡ Some last → slice_get (good_slots design plan) (suc number) ≡ Some next →
      IsFollowed (good_machine design) (first_run (good_machine design) plan.end) last next
  run-followed number last next here there = followed (good_machine design) (first_run (good_machine design) plan.end) number last next rises here there

  -- Times

  time-open : (count : ℕ) (last next : FirstSlot) → slice_get (good_slots design plan) count ≡ Some last → slice_get (good_slots design plan) (suc count) ≡ Some next →
      time_at design plan (suc count) ≡ Some last.begins.time
  time-open count last next here there =
      ap (λ (o : Option FirstSlot). elim o as (λ _. Option ℕ) [
        | None ↦ Some plan.end
        | Some later ↦ elim (slice_get (good_slots design plan) count) as (λ _. Option ℕ) [ None ↦ Some plan.end | Some slot ↦ Some slot.begins.time ]
      ]) there
      ∙ ap (λ (o : Option FirstSlot). elim o as (λ _. Option ℕ) [ None ↦ Some plan.end | Some slot ↦ Some slot.begins.time ]) here

  time-over : (count : ℕ) → slice_get (good_slots design plan) (suc count) ≡ None → time_at design plan (suc count) ≡ Some plan.end
  time-over count none =
      ap (λ (o : Option FirstSlot). elim o as (λ _. Option ℕ) [
        | None ↦ Some plan.end
        | Some later ↦ elim (slice_get (good_slots design plan) count) as (λ _. Option ℕ) [ None ↦ Some plan.end | Some slot ↦ Some slot.begins.time ]
      ]) none

  -- the time with so many slots: that of the last of them, or the plan's end
  record TimeAt (count time : ℕ) : Type 0 where
    within : time ≤ plan.end
    last : (slot next : FirstSlot) → slice_get (good_slots design plan) count ≡ Some slot → slice_get (good_slots design plan) (suc count) ≡ Some next → time ≡ slot.begins.time
    over : length (good_slots design plan) ≤ suc count → time ≡ plan.end

  time-tells : (count time : ℕ) → time_at design plan (suc count) ≡ Some time → TimeAt count time
  time-tells count time e = elim (slice_get_cases (good_slots design plan) (suc count)).1 [
    | inl found ↦ elim (slice_get_cases (good_slots design plan) count).1 [
      | inl before ↦
          let same : before.0.begins.time ≡ time = some-is before.0.begins.time time (sym (time-open count before.0 found.0 before.2 found.2) ∙ e) in
          let by : before.0.begins.time ≤ plan.end = all-at (λ (slot : FirstSlot). slot.begins.time ≤ plan.end) (good_slots design plan) count before.0 slots-within before.2 in
          record {
            within = omega (arith, same, by);
            last = λ slot next here there. sym same ∙ ap (λ (s : FirstSlot). s.begins.time) (some-is before.0 slot (sym before.2 ∙ here));
            over = λ past. absurd (omega (arith, past, found.1));
          }
      | inr past ↦ absurd (omega (arith, past.0, found.1))
    ]
    | inr past ↦
        let same : plan.end ≡ time = some-is plan.end time (sym (time-over count past.1) ∙ e) in
        record {
          within = omega (arith, same);
          last = λ slot next here there. cc;
          over = λ more. sym same;
        }
  ]

  pub times-rise : (at later one other : ℕ) → at ≤ later → time_at design plan at ≡ Some one → time_at design plan later ≡ Some other → one ≤ other
  times-rise zero later one other low e f = cc
  times-rise (suc at) zero one other low e f = absurd (omega (arith, low))
  times-rise (suc at) (suc later) one other low e f =
      let first = time-tells at one e in
      let second = time-tells later other f in
      elim (slice_get_cases (good_slots design plan) (suc later)).1 [
        | inl found ↦ between first second found.0 found.1 found.2
        | inr past ↦ (let is : other ≡ plan.end = second.over past.0 in let within : one ≤ plan.end = first.within in omega (arith, is, within))
      ]
    where
      between : TimeAt at one → TimeAt later other → (next : FirstSlot) → suc later < length (good_slots design plan) → slice_get (good_slots design plan) (suc later) ≡ Some next → one ≤ other
      between first second next more there =
          elim (slice_get_cases (good_slots design plan) later).1 [
            | inl last ↦ elim (slice_get_cases (good_slots design plan) at).1 [
              | inl before ↦ elim (slice_get_cases (good_slots design plan) (suc at)).1 [
                | inl after ↦
                    let one_is : one ≡ before.0.begins.time = first.last before.0 after.0 before.2 after.2 in
                    let other_is : other ≡ last.0.begins.time = second.last last.0 next last.2 there in
                    let rise : before.0.begins.time ≤ last.0.begins.time = rise-at (good_slots design plan) at later before.0 last.0 slots-rise before.2 last.2 (omega (arith, low)) in
                    omega (arith, one_is, other_is, rise)
                | inr past ↦ absurd (omega (arith, past.0, more, low))
              ]
              | inr past ↦ absurd (omega (arith, past.0, more, low))
            ]
            | inr past ↦ absurd (omega (arith, past.0, more))
          ]

  -- Windows

  all-here : (count : ℕ) (last : FirstSlot) → slice_get (good_slots design plan) count ≡ Some last → slice_get (good_slots design plan) (suc count) ≡ None → IsAllAt design plan (suc count)
  all-here count last here none = record {
    time_is = time-over count none;
    all = elim (slice_get_cases (good_slots design plan) (suc count)).1 [
      | inl found ↦ cc
      | inr past ↦ (let within : count < length (good_slots design plan) = slice_get_within (good_slots design plan) count last here in omega (arith, within, past.0))
    ];
  }

  stop-here : (count : ℕ) (last : FirstSlot) → slice_get (good_slots design plan) count ≡ Some last → slice_get (good_slots design plan) (suc count) ≡ None →
      good_stop design plan ≡ stop_by (good_machine design) last [] (slot_outcome (good_machine design) last)
  stop-here count last here none = last-stops (good_machine design) (first_run (good_machine design) plan.end) count last here none

  open-here : (count : ℕ) (last next : FirstSlot) → slice_get (good_slots design plan) count ≡ Some last → slice_get (good_slots design plan) (suc count) ≡ Some next →
      IsOpenAt design plan (suc count) last.begins.time
  open-here count last next here there =
      let f = run-followed count last next here there in
      let later : last.begins.time < next.begins.time = f.later in
      let by : next.begins.time ≤ plan.end = all-at (λ (slot : FirstSlot). slot.begins.time ≤ plan.end) (good_slots design plan) (suc count) next slots-within there in
      record {
        time_is = time-open count last next here there;
        early = omega (arith, later, by);
        more = slice_get_within (good_slots design plan) (suc count) next there;
        goes_on = f.stops;
        state_is = run-stands count last.begins.time last here f.fine (omega arith)
            (λ other e. subst (λ (s : FirstSlot). last.begins.time < s.begins.time) (some-is next other (sym there ∙ e)) later);
      }

  -- behind a slot that isn't fine comes none
  none-behind : (count : ℕ) (last : FirstSlot) → slice_get (good_slots design plan) count ≡ Some last → slot_outcome (good_machine design) last ≢ Fine →
      slice_get (good_slots design plan) (suc count) ≡ None
  none-behind count last here other = elim (slice_get_cases (good_slots design plan) (suc count)).1 [
    | inl found ↦ absurd (other (run-followed count last found.0 here found.2).fine)
    | inr past ↦ past.1
  ]

  open-window : (begins ends : ℕ) (window : IsWindow design plan begins ends IsOpen) → IsOpenAt design plan ends window.last.begins.time
  open-window begins zero window = absurd (omega (arith, window.some))
  open-window begins (suc count) window = elim (slice_get_cases (good_slots design plan) (suc count)).1 [
    | inl found ↦ open-here count window.last found.0 (window.stands count refl) found.2
    | inr past ↦ absurd (go (slot_outcome (good_machine design) window.last) (slice_get (good_slots design plan) (suc count)) past.1 window.end_is)
  ]
    where
      go : (outcome : SlotOutcome) (next : Option FirstSlot) → next ≡ None →
          IsOpen ≡ elim outcome as (λ _. WindowEnd) [ Fine ↦ elim next [ None ↦ IsThrough | Some later ↦ IsOpen ] | Race pair ↦ IsRaced pair | Hyper ↦ IsThrough ] → ⊥
      go Fine None none e = cc
      go Fine (Some later) none e = cc
      go (Race pair) next none e = cc
      go Hyper next none e = cc

  through-window : (begins ends : ℕ) (window : IsWindow design plan begins ends IsThrough) → slot_outcome (good_machine design) window.last ≢ Hyper →
      IsAllAt design plan ends × (good_stop design plan ≡ None)
  through-window begins zero window other = absurd (omega (arith, window.some))
  through-window begins (suc count) window other =
      let told = go (slot_outcome (good_machine design) window.last) (slice_get (good_slots design plan) (suc count)) other window.end_is in
      let here = window.stands count refl in
      (all-here count window.last here told.1, stop-here count window.last here told.1 ∙ ap (stop_by (good_machine design) window.last []) told.0)
    where
      go : (outcome : SlotOutcome) (next : Option FirstSlot) → outcome ≢ Hyper →
          IsThrough ≡ elim outcome as (λ _. WindowEnd) [ Fine ↦ elim next [ None ↦ IsThrough | Some later ↦ IsOpen ] | Race pair ↦ IsRaced pair | Hyper ↦ IsThrough ] →
          (outcome ≡ Fine) × (next ≡ None)
      go Fine None no_loop e = (refl, refl)
      go Fine (Some later) no_loop e = cc
      go (Race pair) next no_loop e = cc
      go Hyper next no_loop e = absurd (no_loop refl)

  raced-window : (begins ends : ℕ) (pair : ReportedPair) (window : IsWindow design plan begins ends (IsRaced pair)) →
      IsAllAt design plan ends × (good_stop design plan ≡ Some (record { time = window.last.begins.time; outcome = Race pair })) × (pair.time ≡ window.last.begins.time)
  raced-window begins zero pair window = absurd (omega (arith, window.some))
  raced-window begins (suc count) pair window =
      let race : slot_outcome (good_machine design) window.last ≡ Race pair =
      go (slot_outcome (good_machine design) window.last) (slice_get (good_slots design plan) (suc count)) window.end_is in
      let here = window.stands count refl in
      let none = none-behind count window.last here (λ fine. not-fine (sym race ∙ fine)) in
      let stop : good_stop design plan ≡ Some (record { time = window.last.begins.time; outcome = Race pair }) =
      stop-here count window.last here none ∙ ap (stop_by (good_machine design) window.last []) race in (
        all-here count window.last here none,
        stop,
        law.race_time (good_machine design) plan.end (record { time = window.last.begins.time; outcome = Race pair }) pair rules stop refl,
      )
    where
      not-fine : Race pair ≡ Fine → ⊥
      not-fine e = cc

      go : (outcome : SlotOutcome) (next : Option FirstSlot) →
          IsRaced pair ≡ elim outcome as (λ _. WindowEnd) [ Fine ↦ elim next [ None ↦ IsThrough | Some later ↦ IsOpen ] | Race found ↦ IsRaced found | Hyper ↦ IsThrough ] →
          outcome ≡ Race pair
      go Fine None e = cc
      go Fine (Some later) e = cc
      go (Race found) next e = cc
      go Hyper next e = cc

-- The laws

pub good_run_goes_on : FirstRunsGoOn → GoodRunGoesOn
good_run_goes_on law = record {
  times = λ design plan at later one other rules. times-rise law design plan rules at later one other;
  some = λ design plan rules. some-slots law design plan rules;
  first = λ design plan slot rules. first-slot law design plan rules slot;
  within = λ design plan number slot rules here. all-at (λ (s : FirstSlot). s.begins.time ≤ plan.end) (good_slots design plan) number slot (slots-within law design plan rules) here;
  stands = λ design plan number time last rules. run-stands law design plan rules number time last;
  fine = λ design plan number last next rules here there.
      let f = run-followed law design plan rules number last next here there in (f.fine, f.later, f.stops);
}

pub windows_end : FirstRunsGoOn → WindowsEnd
windows_end law = record {
  is_open = λ design plan begins ends rules window. open-window law design plan rules begins ends window;
  is_through = λ design plan begins ends rules window. through-window law design plan rules begins ends window;
  is_raced = λ design plan begins ends pair rules window. raced-window law design plan rules begins ends pair window;
}
