-- A slot of a first run is one of each first run that goes to its time.
use Rattle.std.proofs.Common.{◌≡◌, ℕ, zero, suc, ◌<◌, ◌≤◌, List, [], ◌∷◌, Bool, true, false, refl, sym, ap, subst, ◌∙◌, arith}
use Rattle.std.specs.Prelude.{Option, Some, None, slice_get, nat_le}
use Rattle.std.proofs.lemmas.Bool.{le-leb}
use Rattle.vf_base.specs.Lists.{AllHold}
use Rattle.v_design.specs.Designs.{Machine}
use Rattle.v_design.specs.States.{State, start}
use Rattle.v_design.specs.Runs.{FirstSlot, only_if, first_run, next_slot}
use Rattle.v_design.specs.WellFormed.{KeepsRules}
use Rattle.order_laws.specs.FirstRuns.{Follow, Rise, FirstRunsGoOn}
use Rattle.machine_laws.specs.SlotLoop.{slot_from}
use Rattle.machine.specs.Standing.{following, begun_within, next-is-following}
use Rattle.quiet_slots.specs.FirstSlots.{FirstSlotsStand}

some-state : (one other : State) → Some one ≡ Some other → one ≡ other
some-state one other e = cc

some-slot : (one other : FirstSlot) → Some one ≡ Some other → one ≡ other
some-slot one other e = cc

-- the slot to which one leads by an end is that to which it leads by each end that isn't before it
within-is : (time : ℕ) (next : Option State) (begins : State) → begun_within time next ≡ Some begins → next ≡ Some begins
within-is time None begins e = cc
within-is time (Some state) begins e = go (nat_le state.time time) e
  where
    go : (b : Bool) → only_if b state ≡ Some begins → Some state ≡ Some begins
    go true f = f
    go false f = cc

next-other : (machine : Machine) (end time : ℕ) (slot : FirstSlot) (begins : State) → next_slot machine end slot ≡ Some begins → begins.time ≤ time → next_slot machine time slot ≡ Some begins
next-other machine end time slot begins e low =
    next-is-following machine time slot ∙ ap (begun_within time) (within-is end (following machine slot) begins (sym (next-is-following machine end slot) ∙ e))
    ∙ ap (λ b. only_if b begins) (le-leb begins.time time low)

-- the slot before one
record Before (machine : Machine) (time : ℕ) (slots : List FirstSlot) (number : ℕ) (slot : FirstSlot) : Type 0 where
  earlier : FirstSlot
  at : slice_get slots number ≡ Some earlier
  begins : State
  leads : next_slot machine time earlier ≡ Some begins
  is : slot ≡ slot_from machine begins

before : (machine : Machine) (time : ℕ) (begins : Option State) (slots : List FirstSlot) (number : ℕ) (slot : FirstSlot) → Follow machine time begins slots →
    slice_get slots (suc number) ≡ Some slot → Before machine time slots number slot
before machine time None [] number slot follow here = cc
before machine time None (first ∷ slots) number slot follow here = absurd follow
before machine time (Some state) [] number slot follow here = absurd follow
before machine time (Some state) (first ∷ []) number slot follow here = cc
before machine time (Some state) (first ∷ (second ∷ slots)) zero slot follow here = go (next_slot machine time first) refl follow.1
  where
    go : (next : Option State) → next_slot machine time first ≡ next → Follow machine time next (second ∷ slots) → Before machine time (first ∷ (second ∷ slots)) zero slot
    go None e f = absurd f
    go (Some begins) e f = record { earlier = first; at = refl; begins = begins; leads = e; is = sym (some-slot second slot here) ∙ f.0 }
before machine time (Some state) (first ∷ (second ∷ slots)) (suc number) slot follow here =
    let more = before machine time (next_slot machine time first) (second ∷ slots) number slot follow.1 here in
    record { earlier = more.earlier; at = more.at; begins = more.begins; leads = more.leads; is = more.is }

all-at : (P : FirstSlot → Type 0) (slots : List FirstSlot) (number : ℕ) (slot : FirstSlot) → AllHold P slots → slice_get slots number ≡ Some slot → P slot
all-at P [] number slot all here = cc
all-at P (first ∷ slots) zero slot all here = subst P (some-slot first slot here) all.0
all-at P (first ∷ slots) (suc number) slot all here = all-at P slots number slot all.1 here

rise-next : (slots : List FirstSlot) (number : ℕ) (slot later : FirstSlot) → Rise slots → slice_get slots number ≡ Some slot → slice_get slots (suc number) ≡ Some later →
    slot.begins.time < later.begins.time
rise-next [] number slot later rise here there = cc
rise-next (first ∷ slots) zero slot later rise here there =
    subst (λ (s : FirstSlot). s.begins.time < later.begins.time) (some-slot first slot here) (all-at (λ (s : FirstSlot). first.begins.time < s.begins.time) slots 0 later rise.0 there)
rise-next (first ∷ slots) (suc number) slot later rise here there = rise-next slots number slot later rise.1 here there

first-of : (machine : Machine) (time : ℕ) (begins : State) (slots : List FirstSlot) → Follow machine time (Some begins) slots → slice_get slots 0 ≡ Some (slot_from machine begins)
first-of machine time begins [] follow = absurd follow
first-of machine time begins (slot ∷ slots) follow = ap Some follow.0

pub in-each : FirstRunsGoOn → FirstSlotsStand → (machine : Machine) → KeepsRules machine.design → (end number : ℕ) (slot : FirstSlot) → slice_get (first_run machine end) number ≡ Some slot →
    (time : ℕ) → slot.begins.time ≤ time → slice_get (first_run machine time) number ≡ Some slot
in-each runs slots machine rules end zero slot here time low =
    first-of machine time (start machine) (first_run machine time) (runs.follow machine time rules)
    ∙ sym (first-of machine end (start machine) (first_run machine end) (runs.follow machine end rules)) ∙ here
in-each runs slots machine rules end (suc number) slot here time low =
    let b = before machine end (Some (start machine)) (first_run machine end) number slot (runs.follow machine end rules) here in
    let less : b.earlier.begins.time < slot.begins.time = rise-next (first_run machine end) number b.earlier slot (runs.rise machine end rules) b.at here in
    let early : b.begins.time ≤ time = subst (λ (s : FirstSlot). s.begins.time ≤ time) b.is low in
    slots.next machine time number b.earlier b.begins rules (in-each runs slots machine rules end number b.earlier b.at time (omega (arith, less, low)))
    (next-other machine end time b.earlier b.begins b.leads early)
    ∙ ap Some (sym b.is)

-- the slot behind one of a first run, at whatever time
pub next-in-each : FirstRunsGoOn → FirstSlotsStand → (machine : Machine) → KeepsRules machine.design → (end number : ℕ) (slot : FirstSlot) → slice_get (first_run machine end) number ≡ Some slot →
    (begins : State) → following machine slot ≡ Some begins → slot.begins.time ≤ begins.time → (time : ℕ) → begins.time ≤ time →
    slice_get (first_run machine time) (suc number) ≡ Some (slot_from machine begins)
next-in-each runs slots machine rules end number slot here begins leads later time low =
    slots.next machine time number slot begins rules (in-each runs slots machine rules end number slot here time (omega (arith, later, low)))
    (next-is-following machine time slot ∙ ap (begun_within time) leads ∙ ap (λ b. only_if b begins) (le-leb begins.time time low))
