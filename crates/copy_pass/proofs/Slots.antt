-- The last slot of so many of the good first run (slots by IEEE 1364-2001, clause 5).
use Rattle.std.proofs.Common.{◌≡◌, ℕ, zero, suc, ◌+◌, ◌-◌, ◌<◌, ◌≤◌, List, [], ◌∷◌, length, refl, sym, ap, subst, ◌∙◌, arith, inl, inr}
use Rattle.std.specs.Prelude.{Option, Some, None, slice_get}
use Rattle.std.proofs.lemmas.Option.{slice_get_cases, slice_get_within}
use Rattle.v_design.specs.Designs.{FlatDesign, Machine, TestPlan, good_machine}
use Rattle.v_design.specs.Grades.{Fine, Hyper, Race, SlotOutcome, Stop, first_stop, slot_outcome}
use Rattle.v_design.specs.OwnSteps.{slots_through_stop}
use Rattle.v_design.specs.Runs.{FirstSlot, first_run}
use Rattle.v_design.specs.States.{State}
use Rattle.v_design.specs.WellFormed.{KeepsRules}
use Rattle.between_slots.specs.Between.{state_through}
use Rattle.between_slots.specs.Updates.{SlotsTakeNoTime}
use Rattle.copy_laws.specs.Windows.{IsOpen, IsRaced, IsThrough, IsWindow, WindowEnd, good_slots, state_at, time_at}
use Rattle.beside_laws.specs.GoodRuns.{GoodRunGoesOn, IsOpenAt}
use Rattle.copy_window.specs.window_strobes.Leading.{EndsSo, last_before}
use Rattle.copy_pass.specs.Alone.{fine_slots}

some-is : {A : Type 0} (one other : A) → Some one ≡ Some other → one ≡ other
some-is one other e = cc

-- slots come behind a window's beginning
pub more-slots : (design : FlatDesign) (plan : TestPlan) (before through : ℕ) (ending : WindowEnd) → IsWindow design plan before through ending → before < length (good_slots design plan)
more-slots design plan before zero ending window = (let some : before < 0 = window.some in absurd (omega (arith, some)))
more-slots design plan before (suc last) ending window =
    let some : before < suc last = window.some in
    let there : last < length (good_slots design plan) = slice_get_within (good_slots design plan) last window.last (window.stands last refl) in
    omega (arith, some, there)

-- it comes before the others, and is at a time
pub record IsLast (design : FlatDesign) (plan : TestPlan) (number time : ℕ) : Type 0 where
  pub last : ℕ
  pub slot : FirstSlot
  pub number_is : number ≡ suc last
  pub stands : slice_get (good_slots design plan) last ≡ Some slot
  pub time_is : slot.begins.time ≡ time

-- the time to which so many slots lead, by the next one and the last one
abbrev time-by : TestPlan → Option FirstSlot → Option FirstSlot → Option ℕ
time-by plan next last = elim next [ None ↦ Some plan.end | Some later ↦ elim last [ None ↦ Some plan.end | Some slot ↦ Some slot.begins.time ] ]

-- where slots come behind so many, these lead to the time of the last one
pub last-slot : (design : FlatDesign) (plan : TestPlan) (number time : ℕ) → time_at design plan number ≡ Some time → number < length (good_slots design plan) → IsLast design plan number time
last-slot design plan zero time is more = cc
last-slot design plan (suc last) time is more = elim (slice_get_cases (good_slots design plan) (suc last)).1 [
  | inl next ↦ elim (slice_get_cases (good_slots design plan) last).1 [
    | inl found ↦ record {
      last = last;
      slot = found.0;
      number_is = refl;
      stands = found.2;
      time_is = some-is found.0.begins.time time (sym (at next.0 found.0 next.2 found.2) ∙ is);
    }
    | inr past ↦ absurd (omega (arith, past.0, more))
  ]
  | inr past ↦ absurd (omega (arith, past.0, more))
]
  where
    at : (next slot : FirstSlot) → slice_get (good_slots design plan) (suc last) ≡ Some next → slice_get (good_slots design plan) last ≡ Some slot →
        time_at design plan (suc last) ≡ Some slot.begins.time
    at next slot a b = λ i. time-by plan (a i) (b i)

-- where slots come behind so many
module _ (design : FlatDesign) (plan : TestPlan) (rules : KeepsRules design) (number time : ℕ) (runs_on : IsOpenAt design plan number time) where
  last : IsLast design plan number time
  last = last-slot design plan number time runs_on.time_is runs_on.more

  -- the good machine's state there has the last one's time
  pub good-time : SlotsTakeNoTime → (state_at (good_machine design) plan.end time).time ≡ time
  good-time law =
      ap (λ (s : State). s.time) runs_on.state_is
      ∙ ap (λ n. (state_through design plan n).time) last.number_is
      ∙ law design plan last.last last.slot rules last.stands
      ∙ last.time_is

  -- and the next one is later
  pub next-later : GoodRunGoesOn → (next : FirstSlot) → slice_get (good_slots design plan) number ≡ Some next → time < next.begins.time
  next-later law next here =
      let later : last.slot.begins.time < next.begins.time =
      (law.fine design plan last.last last.slot next rules last.stands (subst (λ n. slice_get (good_slots design plan) n ≡ Some next) last.number_is here)).1 in
      omega (arith, later, last.time_is)

-- The slot that stops the good first run

-- where the first stop is behind no slot there is none
none-stops : (machine : Machine) (slots : List FirstSlot) → length (slots_through_stop machine slots) ≡ 0 → first_stop machine slots ≡ None
none-stops machine [] count = refl
none-stops machine (first ∷ slots) count = absurd (omega (arith, count))

-- of the slots through the first stop the last one is at its time
stop-last : (machine : Machine) (slots : List FirstSlot) (stop : Stop) (number : ℕ) (slot : FirstSlot) → first_stop machine slots ≡ Some stop →
    length (slots_through_stop machine slots) ≡ suc number → slice_get (slots_through_stop machine slots) number ≡ Some slot → slot.begins.time ≡ stop.time
stop-last machine [] stop number slot stops count here = cc
stop-last machine (first ∷ slots) stop number slot stops count here =
    go (slot_outcome machine first) number stops count here (λ (fewer : ℕ). stop-last machine slots stop fewer slot) (none-stops machine slots)
  where
    go : (outcome : SlotOutcome) (number : ℕ) →
        elim outcome as (λ _. Option Stop) [
          | Fine ↦ first_stop machine slots
          | Race pair ↦ Some (record { time = first.begins.time; outcome = Race pair })
          | Hyper ↦ Some (record { time = first.begins.time; outcome = Hyper })
        ] ≡ Some stop → length (first ∷ elim outcome as (λ _. List FirstSlot) [ Fine ↦ slots_through_stop machine slots | Race pair ↦ [] | Hyper ↦ [] ]) ≡ suc number →
        slice_get (first ∷ elim outcome as (λ _. List FirstSlot) [ Fine ↦ slots_through_stop machine slots | Race pair ↦ [] | Hyper ↦ [] ]) number ≡ Some slot →
        ((fewer : ℕ) → first_stop machine slots ≡ Some stop → length (slots_through_stop machine slots) ≡ suc fewer → slice_get (slots_through_stop machine slots) fewer ≡ Some slot →
        slot.begins.time ≡ stop.time) → (length (slots_through_stop machine slots) ≡ 0 → first_stop machine slots ≡ None) → slot.begins.time ≡ stop.time
    go Fine zero stops count here rest none =
        let no : first_stop machine slots ≡ None = none (omega (arith, count)) in
        let never : None ≡ Some stop = sym no ∙ stops in
        cc
    go Fine (suc fewer) stops count here rest none = rest fewer stops (omega (arith, count)) here
    go (Race pair) zero stops count here rest none =
        ap (λ (s : FirstSlot). s.begins.time) (sym (some-is first slot here)) ∙ ap (λ (s : Stop). s.time) (some-is (record { time = first.begins.time; outcome = Race pair }) stop stops)
    go (Race pair) (suc fewer) stops count here rest none = absurd (omega (arith, count))
    go Hyper zero stops count here rest none =
        ap (λ (s : FirstSlot). s.begins.time) (sym (some-is first slot here)) ∙ ap (λ (s : Stop). s.time) (some-is (record { time = first.begins.time; outcome = Hyper }) stop stops)
    go Hyper (suc fewer) stops count here rest none = absurd (omega (arith, count))

-- the time before another
pub just-before : (time until : ℕ) → Some until ≡ last_before time → time ≡ suc until
just-before zero until is = cc
just-before (suc time) until is = ap suc (sym (some-is until time is))

pub fine-few : (ending : WindowEnd) (count : ℕ) → fine_slots ending count ≤ count
fine-few IsOpen count = omega arith
fine-few IsThrough count = omega arith
fine-few (IsRaced pair) count = omega arith

-- in a window that leads to a time the slot behind those that come before a race is later than that
pub fine-next : GoodRunGoesOn → (design : FlatDesign) (plan : TestPlan) → KeepsRules design → (through until : ℕ) (ending : WindowEnd) → EndsSo design plan through ending (Some until) →
    (before count : ℕ) → before + count ≡ through → 0 < count → (next : FirstSlot) → slice_get (good_slots design plan) (before + fine_slots ending count) ≡ Some next → until < next.begins.time
fine-next law design plan rules through until IsOpen so before count all some next here =
    next-later design plan rules through until (subst (IsOpenAt design plan through) (sym (some-is until so.0 so.1)) so.2) law next
    (subst (λ n. slice_get (good_slots design plan) n ≡ Some next) all here)
fine-next law design plan rules through until IsThrough so before count all some next here =
    let low = slice_get_within (good_slots design plan) (before + count) next here in
    absurd (omega (arith, low, all, so.0.all))
fine-next law design plan rules through until (IsRaced pair) so before count all some next here =
    let last : next.begins.time ≡ pair.time =
    stop-last (good_machine design) (first_run (good_machine design) plan.end) (record { time = pair.time; outcome = Race pair }) (before + (count - 1)) next so.1
    (let e : through ≡ suc (before + (count - 1)) = omega (arith, all, some) in so.0.all ∙ e) here in
    let late : pair.time ≡ suc until = just-before pair.time until so.2 in
    omega (arith, last, late)
