-- The slots of the good first run in order, and the one of a time among those of a window (slots by IEEE 1364-2001, clause 5).
use Rattle.std.proofs.Common.{◌≡◌, ℕ, zero, suc, ◌+◌, ◌<◌, ◌≤◌, true, false, cond, List, [], ◌∷◌, ◌++◌, take, drop, length, refl, sym, ap, subst, ◌∙◌, arith, eq-eqb, ne_eqb}
use Rattle.std.specs.Prelude.{Option, Some, None, find, nat_eq, slice_get}
use Rattle.std.proofs.lemmas.Option.{slice_get_within}
use Rattle.vf_base.specs.Lists.{AllHold}
use Rattle.v_design.specs.Designs.{FlatDesign, Machine, TestPlan, good_machine}
use Rattle.v_design.specs.Grades.{SlotOutcome, Fine, Race, Hyper, Stop, first_stop, slot_outcome}
use Rattle.v_design.specs.OwnSteps.{slots_through_stop}
use Rattle.v_design.specs.Runs.{FirstSlot, first_run}
use Rattle.v_design.specs.WellFormed.{KeepsRules}
use Rattle.order_laws.specs.FirstRuns.{FirstRunsGoOn, Rise}
use Rattle.copy_laws.specs.Windows.{good_slots}
use Rattle.grade_laws.specs.Ahead.{StopsAfter}
use Rattle.grade_laws.specs.Grading.{good_stop}
use Rattle.window_grade.specs.Beside.{slot_at}

some-slot : (one other : FirstSlot) → Some one ≡ Some other → one ≡ other
some-slot one other e = cc

-- Slots that rise

all-at : (P : FirstSlot → Type 0) (slots : List FirstSlot) → AllHold P slots → (k : ℕ) (slot : FirstSlot) → slice_get slots k ≡ Some slot → P slot
all-at P [] all k slot here = cc
all-at P (x ∷ slots) all zero slot here = subst P (some-slot x slot here) all.0
all-at P (x ∷ slots) all (suc k) slot here = all-at P slots all.1 k slot here

-- a slot comes before each one of a higher number
pub rise-at : (slots : List FirstSlot) → Rise slots → (k j : ℕ) (one other : FirstSlot) → k < j → slice_get slots k ≡ Some one → slice_get slots j ≡ Some other → one.begins.time < other.begins.time
rise-at [] rise k j one other low here there = cc
rise-at (x ∷ slots) rise k zero one other low here there = absurd (omega (arith, low))
rise-at (x ∷ slots) rise zero (suc j) one other low here there =
    subst (λ (s : FirstSlot). s.begins.time < other.begins.time) (some-slot x one here) (all-at (λ (later : FirstSlot). x.begins.time < later.begins.time) slots rise.0 j other there)
rise-at (x ∷ slots) rise (suc k) (suc j) one other low here there = rise-at slots rise.1 k j one other (omega (arith, low)) here there

-- Slots through the first that isn't fine

-- those behind one with an outcome
abbrev rest_by : Machine → List FirstSlot → SlotOutcome → List FirstSlot
rest_by machine slots outcome = elim outcome [ Fine ↦ slots_through_stop machine slots | Race pair ↦ [] | Hyper ↦ [] ]

-- they are slots of the same numbers
pub through-get : (machine : Machine) (slots : List FirstSlot) (k : ℕ) (slot : FirstSlot) → slice_get (slots_through_stop machine slots) k ≡ Some slot → slice_get slots k ≡ Some slot
through-get machine [] k slot here = cc
through-get machine (x ∷ slots) zero slot here = here
through-get machine (x ∷ slots) (suc k) slot here = go (slot_outcome machine x) here (through-get machine slots k slot)
  where
    go : (outcome : SlotOutcome) → slice_get (rest_by machine slots outcome) k ≡ Some slot → (slice_get (slots_through_stop machine slots) k ≡ Some slot → slice_get slots k ≡ Some slot) →
        slice_get slots k ≡ Some slot
    go Fine e rest = rest e
    go (Race pair) e rest = cc
    go Hyper e rest = cc

-- behind them come the others, all after a time after which the first stop comes
record Rest (machine : Machine) (time : ℕ) (slots : List FirstSlot) : Type 0 where
  rest : List FirstSlot
  parts : slots ≡ slots_through_stop machine slots ++ rest
  later : AllHold (λ (slot : FirstSlot). time < slot.begins.time) rest

all-later : (low time : ℕ) (slots : List FirstSlot) → low < time → AllHold (λ (slot : FirstSlot). time < slot.begins.time) slots → AllHold (λ (slot : FirstSlot). low < slot.begins.time) slots
all-later low time [] h all = tt
all-later low time (slot ∷ slots) h all = (let x : time < slot.begins.time = all.0 in omega (arith, h, x), all-later low time slots h all.1)

-- the first stop of a slot with an outcome, and of those after it
abbrev stop_by : Machine → FirstSlot → List FirstSlot → SlotOutcome → Option Stop
stop_by machine slot slots outcome = elim outcome [
  | Fine ↦ first_stop machine slots
  | Race pair ↦ Some (record { time = slot.begins.time; outcome = Race pair })
  | Hyper ↦ Some (record { time = slot.begins.time; outcome = Hyper })
]

rest-of : (machine : Machine) (time : ℕ) (slots : List FirstSlot) → Rise slots → StopsAfter time (first_stop machine slots) → Rest machine time slots
rest-of machine time [] rise stop = record { rest = []; parts = refl; later = tt }
rest-of machine time (x ∷ slots) rise stop = go (slot_outcome machine x) refl stop (rest-of machine time slots rise.1)
  where
    go : (outcome : SlotOutcome) → slot_outcome machine x ≡ outcome → StopsAfter time (stop_by machine x slots outcome) →
        (StopsAfter time (first_stop machine slots) → Rest machine time slots) → Rest machine time (x ∷ slots)
    go Fine e s others =
        let more = others s in
        record {
          rest = more.rest;
          parts = ap (λ (l : List FirstSlot). x ∷ l) more.parts ∙ sym (ap (λ o. (x ∷ rest_by machine slots o) ++ more.rest) e);
          later = more.later;
        }
    go (Race pair) e s others =
        record { rest = slots; parts = sym (ap (λ o. (x ∷ rest_by machine slots o) ++ slots) e); later = all-later time x.begins.time slots s rise.0 }
    go Hyper e s others = record { rest = slots; parts = sym (ap (λ o. (x ∷ rest_by machine slots o) ++ slots) e); later = all-later time x.begins.time slots s rise.0 }

-- Finding

abbrev IsAt : ℕ → FirstSlot → Type 0
IsAt time slot = slot.begins.time ≡ time

one-not : (time : ℕ) (x : FirstSlot) (slots : List FirstSlot) → (IsAt time x → ⊥) → slot_at (x ∷ slots) time ≡ slot_at slots time
one-not time x slots differ = ap (λ b. cond b (Some x) (slot_at slots time)) (ne_eqb x.begins.time time differ)

none-at : (time : ℕ) (slots : List FirstSlot) → ((k : ℕ) (slot : FirstSlot) → slice_get slots k ≡ Some slot → IsAt time slot → ⊥) → slot_at slots time ≡ None
none-at time [] none = refl
none-at time (x ∷ slots) none = one-not time x slots (none 0 x refl) ∙ none-at time slots (λ k. none (suc k))

-- none of the slots behind others is at that time
none-behind : (time : ℕ) (slots rest : List FirstSlot) → AllHold (λ (slot : FirstSlot). time < slot.begins.time) rest → slot_at (slots ++ rest) time ≡ slot_at slots time
none-behind time [] rest later = none-at time rest (λ k slot here at. (let past : time < slot.begins.time = all-at (λ (s : FirstSlot). time < s.begins.time) rest later k slot here in omega (arith, past, at)))
none-behind time (x ∷ slots) rest later = ap (λ o. cond (nat_eq x.begins.time time) (Some x) o) (none-behind time slots rest later)

-- nor one before a window, nor behind it
none-outside : (time : ℕ) (slots : List FirstSlot) (before through : ℕ) → ((k : ℕ) (slot : FirstSlot) → k < before → slice_get slots k ≡ Some slot → IsAt time slot → ⊥) →
    ((k : ℕ) (slot : FirstSlot) → through ≤ k → slice_get slots k ≡ Some slot → IsAt time slot → ⊥) → slot_at slots time ≡ slot_at (drop before (take through slots)) time
none-outside time [] zero zero low high = refl
none-outside time [] zero (suc through) low high = refl
none-outside time [] (suc before) zero low high = refl
none-outside time [] (suc before) (suc through) low high = refl
none-outside time (x ∷ slots) zero zero low high = none-at time (x ∷ slots) (λ k slot here. high k slot (omega arith) here)
none-outside time (x ∷ slots) (suc before) zero low high = none-at time (x ∷ slots) (λ k slot here. high k slot (omega arith) here)
none-outside time (x ∷ slots) zero (suc through) low high =
    ap (λ o. cond (nat_eq x.begins.time time) (Some x) o)
    (none-outside time slots zero through (λ k slot h. absurd (omega (arith, h))) (λ k slot h. high (suc k) slot (omega (arith, h))))
none-outside time (x ∷ slots) (suc before) (suc through) low high =
    one-not time x slots (low 0 x (omega arith) refl)
    ∙ none-outside time slots before through (λ k slot h. low (suc k) slot (omega (arith, h))) (λ k slot h. high (suc k) slot (omega (arith, h)))

-- a slot is found by its time
pub found-at : (slots : List FirstSlot) → Rise slots → (k : ℕ) (slot : FirstSlot) → slice_get slots k ≡ Some slot → slot_at slots slot.begins.time ≡ Some slot
found-at [] rise k slot here = cc
found-at (x ∷ slots) rise zero slot here =
    ap (λ b. cond b (Some x) (slot_at slots slot.begins.time)) (eq-eqb x.begins.time slot.begins.time (ap (λ (s : FirstSlot). s.begins.time) (some-slot x slot here))) ∙ here
found-at (x ∷ slots) rise (suc k) slot here =
    let later : x.begins.time < slot.begins.time = all-at (λ (s : FirstSlot). x.begins.time < s.begins.time) slots rise.0 k slot here in
    one-not slot.begins.time x slots (λ at. omega (arith, later, at)) ∙ found-at slots rise.1 k slot here

-- The good first run

module _ (law : FirstRunsGoOn) (design : FlatDesign) (plan : TestPlan) (rules : KeepsRules design) where
  pub slots-rise : (k j : ℕ) (one other : FirstSlot) → k < j → slice_get (good_slots design plan) k ≡ Some one → slice_get (good_slots design plan) j ≡ Some other →
      one.begins.time < other.begins.time
  slots-rise k j one other low here there =
      rise-at (first_run (good_machine design) plan.end) (law.rise (good_machine design) plan.end rules) k j one other low
      (through-get (good_machine design) (first_run (good_machine design) plan.end) k one here) (through-get (good_machine design) (first_run (good_machine design) plan.end) j other there)

  -- a slot is the one of its time
  pub slot-found : (k : ℕ) (slot : FirstSlot) → slice_get (good_slots design plan) k ≡ Some slot → slot_at (first_run (good_machine design) plan.end) slot.begins.time ≡ Some slot
  slot-found k slot here =
      found-at (first_run (good_machine design) plan.end) (law.rise (good_machine design) plan.end rules) k slot
      (through-get (good_machine design) (first_run (good_machine design) plan.end) k slot here)

  -- one of a time before the first stop is one of a window's, if none outside it is at that time
  pub slot-in-window : (time before through : ℕ) → StopsAfter time (good_stop design plan) →
      ((k : ℕ) (slot : FirstSlot) → k < before → slice_get (good_slots design plan) k ≡ Some slot → slot.begins.time < time) →
      ((k : ℕ) (slot : FirstSlot) → through ≤ k → slice_get (good_slots design plan) k ≡ Some slot → time < slot.begins.time) →
      slot_at (first_run (good_machine design) plan.end) time ≡ slot_at (drop before (take through (good_slots design plan))) time
  slot-in-window time before through stop low high =
      let more = rest-of (good_machine design) time (first_run (good_machine design) plan.end) (law.rise (good_machine design) plan.end rules) stop in
      ap (λ (l : List FirstSlot). slot_at l time) more.parts ∙ none-behind time (good_slots design plan) more.rest more.later
      ∙ none-outside time (good_slots design plan) before through
      (λ k slot h here at. (let early = low k slot h here in omega (arith, early, at)))
      (λ k slot h here at. (let late = high k slot h here in omega (arith, late, at)))
