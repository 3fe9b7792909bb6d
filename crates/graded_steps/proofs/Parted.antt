-- The slots of a first run to an end are those to a time and those after it (slots by IEEE 1364-2001, clause 5).
use Rattle.std.proofs.Common.{◌≡◌, ◌≢◌, ℕ, ◌+◌, ◌<◌, ◌≤◌, List, [], ◌∷◌, Bool, true, false, cond, refl, sym, ap, subst, ◌∙◌, arith, zero-add}
use Rattle.std.specs.Prelude.{Option, Some, None, sum_by, nat_le}
use Rattle.std.proofs.lemmas.Bool.{lt-ltb, le-ltb, le-leb, leb-true, leb-false}
use Rattle.std.proofs.lemmas.List.Sums.{sum_by-cons}
use Rattle.vf_base.specs.Lists.{AllHold}
use Rattle.v_design.specs.Designs.{Machine}
use Rattle.v_design.specs.States.{State, start}
use Rattle.v_design.specs.Runs.{FirstSlot, first_run, next_slot, only_if}
use Rattle.v_design.specs.Grades.{SlotOutcome, Fine, Race, Hyper, slot_outcome}
use Rattle.v_design.specs.OwnSteps.{slots_through_stop}
use Rattle.v_design.specs.WellFormed.{KeepsRules}
use Rattle.order_laws.specs.FirstRuns.{Follow, Rise, FirstRunsGoOn}
use Rattle.machine_laws.specs.SlotLoop.{slot_from}
use Rattle.machine.specs.Ticks.{process_steps}
use Rattle.machine.specs.Standing.{begun_within, following, next-is-following}
use Rattle.fault_grade.specs.Ticks.{steps_by, steps_through}
use Rattle.graded_steps.specs.Ahead.{steps_if_after, steps_after}

-- Slots through the first that isn't fine

-- those after one with an outcome
abbrev pub rest_by : Machine → List FirstSlot → SlotOutcome → List FirstSlot
rest_by machine slots outcome = elim outcome [ Fine ↦ slots_through_stop machine slots | Race pair ↦ [] | Hyper ↦ [] ]

pub through-fine : (machine : Machine) (slot : FirstSlot) (slots : List FirstSlot) → slot_outcome machine slot ≡ Fine →
    slots_through_stop machine (slot ∷ slots) ≡ slot ∷ slots_through_stop machine slots
through-fine machine slot slots fine = ap (λ o. slot ∷ rest_by machine slots o) fine

pub through-stop : (machine : Machine) (slot : FirstSlot) (slots : List FirstSlot) → slot_outcome machine slot ≢ Fine → slots_through_stop machine (slot ∷ slots) ≡ slot ∷ []
through-stop machine slot slots other = ap (λ l. slot ∷ l) (go (slot_outcome machine slot) other)
  where
    go : (outcome : SlotOutcome) → outcome ≢ Fine → rest_by machine slots outcome ≡ []
    go Fine other = absurd (other refl)
    go (Race pair) other = refl
    go Hyper other = refl

pub through-all : (P : FirstSlot → Type 0) (machine : Machine) (slots : List FirstSlot) → AllHold P slots → AllHold P (slots_through_stop machine slots)
through-all P machine [] all = tt
through-all P machine (slot ∷ slots) all = (all.0, go (slot_outcome machine slot) (through-all P machine slots all.1))
  where
    go : (outcome : SlotOutcome) → AllHold P (slots_through_stop machine slots) → AllHold P (rest_by machine slots outcome)
    go Fine rest = rest
    go (Race pair) rest = tt
    go Hyper rest = tt

pub all-after : (low time : ℕ) (slots : List FirstSlot) → low ≤ time → AllHold (λ (slot : FirstSlot). time < slot.begins.time) slots → AllHold (λ (slot : FirstSlot). low < slot.begins.time) slots
all-after low time [] h a = tt
all-after low time (slot ∷ slots) h a = (let x : time < slot.begins.time = a.0 in omega (arith, h, x), all-after low time slots h a.1)

-- an outcome is fine, or it isn't
pub by-outcome : (P : Type 0) (outcome : SlotOutcome) → (outcome ≡ Fine → P) → (outcome ≢ Fine → P) → P
by-outcome P Fine fine other = fine refl
by-outcome P (Race pair) fine other = other (λ e. cc)
by-outcome P Hyper fine other = other (λ e. cc)

-- Steps

no-more : (n : ℕ) → n + 0 ≡ n
no-more n = omega arith

pub steps-fine : (machine : Machine) (slot : FirstSlot) (slots : List FirstSlot) → slot_outcome machine slot ≡ Fine →
    steps_through machine (slot ∷ slots) ≡ process_steps slot + steps_through machine slots
steps-fine machine slot slots fine = ap (sum_by process_steps) (through-fine machine slot slots fine) ∙ sum_by-cons process_steps slot (slots_through_stop machine slots)

pub steps-stop : (machine : Machine) (slot : FirstSlot) (slots : List FirstSlot) → slot_outcome machine slot ≢ Fine → steps_through machine (slot ∷ slots) ≡ process_steps slot
steps-stop machine slot slots other = ap (sum_by process_steps) (through-stop machine slot slots other) ∙ (sum_by-cons process_steps slot [] ∙ no-more (process_steps slot))

-- a slot that begins by a time has none after it
pub none-after : (time : ℕ) (slot : FirstSlot) → slot.begins.time ≤ time → steps_if_after time slot ≡ 0
none-after time slot h = ap (λ b. cond b (process_steps slot) 0) (le-ltb time slot.begins.time h)

all-of-later : (time : ℕ) (slot : FirstSlot) → time < slot.begins.time → steps_if_after time slot ≡ process_steps slot
all-of-later time slot h = ap (λ b. cond b (process_steps slot) 0) (lt-ltb time slot.begins.time h)

pub after-fine : (time : ℕ) (machine : Machine) (slot : FirstSlot) (slots : List FirstSlot) → slot.begins.time ≤ time → slot_outcome machine slot ≡ Fine →
    steps_after time machine (slot ∷ slots) ≡ steps_after time machine slots
after-fine time machine slot slots h fine =
    ap (sum_by (steps_if_after time)) (through-fine machine slot slots fine) ∙ (sum_by-cons (steps_if_after time) slot (slots_through_stop machine slots)
    ∙ (ap (λ n. n + steps_after time machine slots) (none-after time slot h) ∙ zero-add (steps_after time machine slots)))

after-stop : (time : ℕ) (machine : Machine) (slot : FirstSlot) (slots : List FirstSlot) → slot.begins.time ≤ time → slot_outcome machine slot ≢ Fine →
    steps_after time machine (slot ∷ slots) ≡ 0
after-stop time machine slot slots h other =
    ap (sum_by (steps_if_after time)) (through-stop machine slot slots other) ∙ (sum_by-cons (steps_if_after time) slot [] ∙ (no-more (steps_if_after time slot) ∙ none-after time slot h))

-- where all slots begin after a time, all their steps are after it
sums-same : (time : ℕ) (slots : List FirstSlot) → AllHold (λ (slot : FirstSlot). time < slot.begins.time) slots → sum_by (steps_if_after time) slots ≡ sum_by process_steps slots
sums-same time [] h = refl
sums-same time (slot ∷ slots) h =
    sum_by-cons (steps_if_after time) slot slots
    ∙ ((λ i. all-of-later time slot h.0 i + sums-same time slots h.1 i) ∙ sym (sum_by-cons process_steps slot slots))

pub after-all : (time : ℕ) (machine : Machine) (slots : List FirstSlot) → AllHold (λ (slot : FirstSlot). time < slot.begins.time) slots →
    steps_after time machine slots ≡ steps_through machine slots
after-all time machine slots h = sums-same time (slots_through_stop machine slots) (through-all (λ (slot : FirstSlot). time < slot.begins.time) machine slots h)

-- Two first runs of a machine

-- a slot that is next in both
module _ (machine : Machine) (end time : ℕ) (begins : State) (slots others : List FirstSlot) (early : begins.time ≤ time)
    (rest : steps_through machine slots + steps_after time machine others ≡ steps_through machine others)
  where
    abbrev slot : FirstSlot
    slot = slot_from machine begins

    parted-slot : steps_through machine (slot ∷ slots) + steps_after time machine (slot ∷ others) ≡ steps_through machine (slot ∷ others)
    parted-slot = by-outcome (steps_through machine (slot ∷ slots) + steps_after time machine (slot ∷ others) ≡ steps_through machine (slot ∷ others)) (slot_outcome machine slot)
        (λ fine. (
        let a : steps_through machine (slot ∷ slots) ≡ process_steps slot + steps_through machine slots = steps-fine machine slot slots fine in
        let b : steps_after time machine (slot ∷ others) ≡ steps_after time machine others = after-fine time machine slot others early fine in
        let c : steps_through machine (slot ∷ others) ≡ process_steps slot + steps_through machine others = steps-fine machine slot others fine in
        omega (arith, a, b, c, rest)))
        (λ other. (
        let a : steps_through machine (slot ∷ slots) ≡ process_steps slot = steps-stop machine slot slots other in
        let b : steps_after time machine (slot ∷ others) ≡ 0 = after-stop time machine slot others early other in
        let c : steps_through machine (slot ∷ others) ≡ process_steps slot = steps-stop machine slot others other in
        omega (arith, a, b, c)))

-- what is parted where both runs begin with a slot
abbrev PartedFrom : Machine → ℕ → List FirstSlot → List FirstSlot → FirstSlot → FirstSlot → Type 0
PartedFrom machine time slots others one other = steps_through machine (one ∷ slots) + steps_after time machine (other ∷ others) ≡ steps_through machine (other ∷ others)

parted : (machine : Machine) (end time : ℕ) → time ≤ end → (next : Option State) (slots others : List FirstSlot) → Follow machine time (begun_within time next) slots →
    Follow machine end (begun_within end next) others → Rise others → steps_through machine slots + steps_after time machine others ≡ steps_through machine others
parted machine end time h None [] [] f g r = refl
parted machine end time h None [] (y ∷ others) f g r = absurd g
parted machine end time h None (x ∷ slots) others f g r = absurd f
parted machine end time h (Some begins) [] [] f g r = refl
parted machine end time h (Some begins) [] (y ∷ others) f g r =
    zero-add (steps_after time machine (y ∷ others)) ∙ after-all time machine (y ∷ others) (first_late, all-after time y.begins.time others (omega (arith, first_late)) r.0)
  where
    late : (b : Bool) → nat_le begins.time time ≡ b → Follow machine time (only_if b begins) [] → time < begins.time
    late true e k = absurd k
    late false e k = leb-false begins.time time e

    first-is : (b : Bool) → Follow machine end (only_if b begins) (y ∷ others) → y.begins ≡ begins
    first-is true k = ap (λ (s : FirstSlot). s.begins) k.0
    first-is false k = absurd k

    first_late : time < y.begins.time
    first_late = subst (λ (s : State). time < s.time) (sym (first-is (nat_le begins.time end) g)) (late (nat_le begins.time time) refl f)
parted machine end time h (Some begins) (x ∷ slots) [] f g r = absurd (none (nat_le begins.time time) refl f)
  where
    none : (b : Bool) → nat_le begins.time time ≡ b → Follow machine time (only_if b begins) (x ∷ slots) → ⊥
    none true e k =
        let early : begins.time ≤ time = leb-true begins.time time e in
        subst (λ b. Follow machine end (only_if b begins) []) (le-leb begins.time end (omega (arith, early, h))) g
    none false e k = k
parted machine end time h (Some begins) (x ∷ slots) (y ∷ others) f g r =
    both (nat_le begins.time time) refl f (nat_le begins.time end) g (λ a b. parted machine end time h (following machine (slot_from machine begins)) slots others a b r.1)
  where
    both : (b : Bool) → nat_le begins.time time ≡ b → Follow machine time (only_if b begins) (x ∷ slots) → (c : Bool) → Follow machine end (only_if c begins) (y ∷ others) →
        (Follow machine time (begun_within time (following machine (slot_from machine begins))) slots → Follow machine end (begun_within end (following machine (slot_from machine begins))) others →
        steps_through machine slots + steps_after time machine others ≡ steps_through machine others) → PartedFrom machine time slots others x y
    both true e k true l rest =
        let early : begins.time ≤ time = leb-true begins.time time e in
        let one : x ≡ slot_from machine begins = k.0 in
        let other : y ≡ slot_from machine begins = l.0 in
        let a : Follow machine time (begun_within time (following machine (slot_from machine begins))) slots =
        subst (λ next. Follow machine time next slots) (next-is-following machine time (slot_from machine begins))
        (subst (λ (s : FirstSlot). Follow machine time (next_slot machine time s) slots) one k.1) in
        let b : Follow machine end (begun_within end (following machine (slot_from machine begins))) others =
        subst (λ next. Follow machine end next others) (next-is-following machine end (slot_from machine begins))
        (subst (λ (s : FirstSlot). Follow machine end (next_slot machine end s) others) other l.1) in
        subst (λ (s : FirstSlot). PartedFrom machine time slots others s y) (sym one)
        (subst (λ (s : FirstSlot). PartedFrom machine time slots others (slot_from machine begins) s) (sym other)
        (parted-slot machine end time begins slots others early (rest a b)))
    both true e k false l rest = absurd l
    both false e k c l rest = absurd k

-- the steps up to a time and those after it are all
pub steps-parted : FirstRunsGoOn → (machine : Machine) (end time : ℕ) → KeepsRules machine.design → time ≤ end →
    steps_by machine time + steps_after time machine (first_run machine end) ≡ steps_by machine end
steps-parted law machine end time rules h =
    parted machine end time h (Some (start machine)) (first_run machine time) (first_run machine end) (from-start time) (from-start end) (law.rise machine end rules)
  where
    from-start : (last : ℕ) → Follow machine last (begun_within last (Some (start machine))) (first_run machine last)
    from-start last = subst (λ b. Follow machine last (only_if b (start machine)) (first_run machine last)) (sym (le-leb 0 last (omega arith))) (law.follow machine last rules)
