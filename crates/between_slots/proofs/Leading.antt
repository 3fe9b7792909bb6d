-- What a process does between slots, by its runs.
use Rattle.std.proofs.Common.{◌≡◌, ℕ, zero, suc, ◌+◌, ◌-◌, ◌<◌, ◌≤◌, List, [], ◌∷◌, ◌++◌, length, Bool, true, false, refl, sym, ap, subst, ◌∙◌, inl, inr, arith}
use Rattle.std.proofs.Common.{append_assoc}
use Rattle.std.specs.Prelude.{Option, Some, None, slice_get, nat_le}
use Rattle.std.proofs.lemmas.Option.{slice_get_cases, slice_get_within}
use Rattle.v_design.specs.Designs.{FlatDesign, Machine, TestPlan, good_machine}
use Rattle.v_design.specs.Processes.{Activity}
use Rattle.v_design.specs.States.{State, TurnKind, PostponedTurn, UpdatesTurn, TimeTurn, process_at, is_ready, start, turn_of, time_turn}
use Rattle.v_design.specs.Runs.{FirstSlot, first_run, slot_end, is_hyper, next_slot_at, next_slot, only_if}
use Rattle.v_design.specs.WellFormed.{KeepsRules}
use Rattle.v_design.specs.Grades.{Phase, phases, SlotOutcome, Fine, Race, Hyper, slot_outcome}
use Rattle.v_design.specs.OwnSteps.{ProcessRun, process_runs, slots_through_stop}
use Rattle.order_laws.specs.FirstRuns.{Follow}
use Rattle.copy_laws.specs.Windows.{good_slots}
use Rattle.between_slots.specs.Between.{state_after, state_through, activity_through, activity_after_runs, window_phases, runs_in, RunsLead}
use Rattle.between_slots.specs.WindowLaws.{window_phases-none, window_phases-more}
use Rattle.between_slots.proofs.Leaving.{turned-still, runs-append, slots_leave}
use Rattle.between_slots.proofs.Resting.{LoopLaws, slots_rest, quiet-ready}

-- A slot's beginning

-- a process that isn't ready in a state does what it did in another
abbrev IsStill : State → State → Type 0
IsStill state before = (p : ℕ) → is_ready (process_at state p).activity ≡ false → (process_at state p).activity ≡ (process_at before p).activity

abbrev MayBeStill : Option State → State → Type 0
MayBeStill None before = Unit {0}
MayBeStill (Some state) before = IsStill state before

next-still : (machine : Machine) (time : ℕ) (slot : FirstSlot) → MayBeStill (next_slot machine time slot) (slot_end machine slot)
next-still machine time slot = go (is_hyper slot)
  where
    timed : (later : ℕ) (b : Bool) → MayBeStill (only_if b (time_turn later (slot_end machine slot))) (slot_end machine slot)
    timed later true = turned-still (TimeTurn later) (slot_end machine slot)
    timed later false = tt

    at : (turn : Option TurnKind) → MayBeStill (next_slot_at time (slot_end machine slot) turn) (slot_end machine slot)
    at None = tt
    at (Some PostponedTurn) = tt
    at (Some UpdatesTurn) = tt
    at (Some (TimeTurn later)) = timed later (nat_le later time)

    go : (hyper : Bool) → MayBeStill (elim hyper as (λ _. Option State) [ true ↦ None | false ↦ next_slot_at time (slot_end machine slot) (turn_of (slot_end machine slot)) ]) (slot_end machine slot)
    go true = tt
    go false = at (turn_of (slot_end machine slot))

some-slot : (a b : FirstSlot) → Some a ≡ Some b → a ≡ b
some-slot a b e = cc

pub after-rest : (machine : Machine) (first : State) (slot : FirstSlot) (slots : List FirstSlot) (number : ℕ) → number < length slots →
    state_after machine first (slot ∷ slots) (suc number) ≡ state_after machine (slot_end machine slot) slots number
after-rest machine first slot slots zero low = refl
after-rest machine first slot slots (suc number) low = go (slice_get slots number) refl
  where
    go : (found : Option FirstSlot) → slice_get slots number ≡ found →
        ◌≡◌ {A = State} (elim found as (λ _. State) [ None ↦ first | Some s ↦ slot_end machine s ]) (elim found as (λ _. State) [ None ↦ slot_end machine slot | Some s ↦ slot_end machine s ])
    go (Some s) e = refl
    go None e = elim (slice_get_cases slots number).1 [
      | inl found ↦ (let clash : None ≡ Some found.0 = sym e ∙ found.2 in cc)
      | inr past ↦ absurd (omega (arith, past.0, low))
    ]

-- a slot's beginning leaves a process doing what it did at the end of the slot before, or makes it ready
follow-still : (machine : Machine) (time : ℕ) (begins : Option State) (before : State) (slots : List FirstSlot) → MayBeStill begins before → Follow machine time begins slots →
    (number : ℕ) (slot : FirstSlot) → slice_get slots number ≡ Some slot → IsStill slot.begins (state_after machine before slots number)
follow-still machine time None before [] still follow number slot here = cc
follow-still machine time None before (first ∷ slots) still follow number slot here = absurd follow
follow-still machine time (Some state) before [] still follow number slot here = absurd follow
follow-still machine time (Some state) before (first ∷ slots) still follow zero slot here =
    subst (λ (x : FirstSlot). IsStill x.begins before) (sym follow.0 ∙ some-slot first slot here) still
follow-still machine time (Some state) before (first ∷ slots) still follow (suc number) slot here =
    subst (IsStill slot.begins) (sym (after-rest machine before first slots number (slice_get_within slots number slot here)))
    (follow-still machine time (next_slot machine time first) (slot_end machine first) slots (next-still machine time first) follow.1 number slot here)

-- The good first run

pub through-get : (machine : Machine) (slots : List FirstSlot) (number : ℕ) (slot : FirstSlot) → slice_get (slots_through_stop machine slots) number ≡ Some slot → slice_get slots number ≡ Some slot
through-get machine [] number slot here = here
through-get machine (first ∷ slots) zero slot here = here
through-get machine (first ∷ slots) (suc number) slot here = go (slot_outcome machine first) here (through-get machine slots number slot)
  where
    go : (outcome : SlotOutcome) → slice_get (elim outcome as (λ _. List FirstSlot) [ Fine ↦ slots_through_stop machine slots | Race pair ↦ [] | Hyper ↦ [] ]) number ≡ Some slot →
        (slice_get (slots_through_stop machine slots) number ≡ Some slot → slice_get slots number ≡ Some slot) → slice_get slots number ≡ Some slot
    go Fine e rest = rest e
    go (Race pair) e rest = cc
    go Hyper e rest = cc

pub after-is : (machine : Machine) (first : State) (slots : List FirstSlot) (number : ℕ) (slot : FirstSlot) → slice_get slots number ≡ Some slot →
    state_after machine first slots (suc number) ≡ slot_end machine slot
after-is machine first slots number slot here = ap (λ (o : Option FirstSlot). elim o [ None ↦ first | Some s ↦ slot_end machine s ]) here

pub through-after : (machine : Machine) (first : State) (slots : List FirstSlot) (number : ℕ) → number ≤ length (slots_through_stop machine slots) →
    state_after machine first (slots_through_stop machine slots) number ≡ state_after machine first slots number
through-after machine first slots zero low = refl
through-after machine first slots (suc number) low =
    elim (slice_get_cases (slots_through_stop machine slots) number).1 [
      | inl found ↦
          after-is machine first (slots_through_stop machine slots) number found.0 found.2
          ∙ sym (after-is machine first slots number found.0 (through-get machine slots number found.0 found.2))
      | inr past ↦ absurd (omega (arith, past.0, low))
    ]

good-still : LoopLaws → (design : FlatDesign) (plan : TestPlan) → KeepsRules design → (number : ℕ) (slot : FirstSlot) → slice_get (good_slots design plan) number ≡ Some slot →
    IsStill slot.begins (state_through design plan number)
good-still laws design plan rules number slot here =
    let machine = good_machine design in
    let low : number < length (good_slots design plan) = slice_get_within (good_slots design plan) number slot here in
    subst (IsStill slot.begins) (sym (through-after machine (start machine) (first_run machine plan.end) number (omega arith)))
    (follow-still machine plan.end (Some (start machine)) (start machine) (first_run machine plan.end) (λ p r. refl) (laws.runs.follow machine plan.end rules) number slot
    (through-get machine (first_run machine plan.end) number slot here))

-- from another activity, where the first one would have been left only by becoming ready
from-still : (a b final : Activity) (runs : List ProcessRun) → final ≡ activity_after_runs a runs → is_ready final ≡ false → (is_ready a ≡ false → a ≡ b) → final ≡ activity_after_runs b runs
from-still a b final [] e r still = e ∙ still (ap is_ready (sym e) ∙ r)
from-still a b final (run ∷ runs) e r still = e

-- one slot more
slot-leads : LoopLaws → (design : FlatDesign) (plan : TestPlan) → KeepsRules design → (number p : ℕ) (slot : FirstSlot) → slice_get (good_slots design plan) number ≡ Some slot →
    is_hyper slot ≡ false →
    activity_through design plan (suc number) p ≡ activity_after_runs (activity_through design plan number p) (runs_in (good_machine design) p (phases (good_machine design) slot))
slot-leads laws design plan rules number p slot here few =
    let machine = good_machine design in
    let rests = quiet-ready (slot_end machine slot) p (slots_rest laws machine plan.end number slot rules (through-get machine (first_run machine plan.end) number slot here) few) in
    ap (λ (s : State). (process_at s p).activity) (after-is machine (start machine) (good_slots design plan) number slot here)
    ∙ from-still (process_at slot.begins p).activity (activity_through design plan number p) (process_at (slot_end machine slot) p).activity (runs_in machine p (phases machine slot))
    (slots_leave machine slot p rests) rests (good-still laws design plan rules number slot here p)

runs-join : (machine : Machine) (p : ℕ) (xs ys : List Phase) → runs_in machine p (xs ++ ys) ≡ runs_in machine p xs ++ runs_in machine p ys
runs-join machine p [] ys = refl
runs-join machine p (x ∷ xs) ys =
    ap (λ l. process_runs machine p x ++ l) (runs-join machine p xs ys) ∙ sym (append_assoc (process_runs machine p x) (runs_in machine p xs) (runs_in machine p ys))

-- so many slots more
abbrev LeadsTo : FlatDesign → TestPlan → ℕ → ℕ → ℕ → Type 0
LeadsTo design plan begins p ends =
    ends ≤ length (good_slots design plan) →
    ((number : ℕ) (slot : FirstSlot) → begins ≤ number → number < ends → slice_get (good_slots design plan) number ≡ Some slot → is_hyper slot ≡ false) →
    activity_through design plan ends p ≡ activity_after_runs (activity_through design plan begins p) (runs_in (good_machine design) p (window_phases design plan begins ends))

window-leads : LoopLaws → (design : FlatDesign) (plan : TestPlan) → KeepsRules design → (begins p count ends : ℕ) → ends ≡ begins + count → LeadsTo design plan begins p ends
window-leads laws design plan rules begins p zero ends is =
    let same : begins ≡ ends = omega (arith, is) in
    subst (LeadsTo design plan begins p) same
    (λ fits few. ap (λ l. activity_after_runs (activity_through design plan begins p) (runs_in (good_machine design) p l)) (sym (window_phases-none design plan begins)))
window-leads laws design plan rules begins p (suc count) ends is =
    let same : suc (begins + count) ≡ ends = omega (arith, is) in
    subst (LeadsTo design plan begins p) same
    (λ fits few. elim (slice_get_cases (good_slots design plan) (begins + count)).1 [
      | inl found ↦ more (begins + count) found.0 found.2 (omega arith)
          (window-leads laws design plan rules begins p count (begins + count) refl (omega (arith, fits)) (λ number slot low high here. few number slot low (omega (arith, high)) here))
          (few (begins + count) found.0 (omega arith) (omega arith) found.2)
      | inr past ↦ absurd (omega (arith, past.0, fits))
    ])
  where
    more : (number : ℕ) (slot : FirstSlot) → slice_get (good_slots design plan) number ≡ Some slot → begins ≤ number →
        activity_through design plan number p ≡ activity_after_runs (activity_through design plan begins p) (runs_in (good_machine design) p (window_phases design plan begins number)) →
        is_hyper slot ≡ false →
        activity_through design plan (suc number) p ≡ activity_after_runs (activity_through design plan begins p) (runs_in (good_machine design) p (window_phases design plan begins (suc number)))
    more number slot here low had few =
        let machine = good_machine design in
        let first = activity_through design plan begins p in
        let window = window_phases design plan begins number in
        slot-leads laws design plan rules number p slot here few
        ∙ ap (λ a. activity_after_runs a (runs_in machine p (phases machine slot))) had
        ∙ sym (runs-append first (runs_in machine p window) (runs_in machine p (phases machine slot)))
        ∙ ap (activity_after_runs first) (sym (runs-join machine p window (phases machine slot)))
        ∙ ap (λ l. activity_after_runs first (runs_in machine p l)) (sym (window_phases-more design plan begins number slot low here))

pub runs_lead : LoopLaws → RunsLead
runs_lead laws design plan begins ends p rules low fits few = window-leads laws design plan rules begins p (ends - begins) ends (omega arith) fits few
