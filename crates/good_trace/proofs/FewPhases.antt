-- A window has few phases, since it has few slots and steps (IEEE 1364-2001, clause 5.3).
use Rattle.std.proofs.Common.{◌≡◌, ℕ, zero, suc, ◌+◌, ◌*◌, ◌-◌, ◌<◌, ◌≤◌, ◌^◌, min, List, [], ◌∷◌, ◌++◌, take, drop, length, sym, ap, subst, arith, length-append}
use Rattle.std.specs.Prelude.{false, Some, slice_get, sum_by}
use Rattle.std.proofs.lemmas.List.{take-append-drop, length-drop, length-take}
use Rattle.std.proofs.lemmas.List.Sums.{sum_by-cons}
use Rattle.vf_base.specs.Lists.{AllHold}
use Rattle.v_design.specs.Designs.{FlatDesign, Machine, TestPlan, good_machine}
use Rattle.v_design.specs.States.{found_or}
use Rattle.v_design.specs.Runs.{FirstSlot, first_run, counted_steps}
use Rattle.v_design.specs.Grades.{SlotOutcome, Fine, Race, Hyper, phases, slot_outcome}
use Rattle.v_design.specs.OwnSteps.{slots_through_stop}
use Rattle.process_code.specs.declared.code.Code.{Code}
use Rattle.process_code.specs.declared.state.RunEnd.{RunEnd}
use Rattle.causal_monitor.specs.declared.slot.SlotLog.{SlotLog}
use Rattle.machine_laws.specs.SlotLoop.{SlotPhasesAreFew}
use Rattle.copy_laws.specs.Windows.{good_slots, window_slots, window_steps}
use Rattle.between_slots.specs.Between.{slots_phases}
use Rattle.good_trace.specs.declared.between.BetweenSlots.{BetweenSlots}
use Rattle.good_trace.specs.declared.pushed.PushedSlots.{PushedSlots}
use Rattle.good_trace.specs.Counted.{steps_logged}
use Rattle.good_trace.specs.RunsKept.{KeepsTrace}
use Rattle.good_trace.specs.Slots.{IsSlotAt, is_full, first_turn}
use Rattle.good_trace.proofs.Counting.{steps-are}
use Rattle.good_trace.proofs.Keeping.{room-left, steps_logged-at}
use Rattle.good_trace.proofs.RunsKeeping.{log-count}

-- a slot has at most two phases more than steps
abbrev HasFewPhases : Machine → FirstSlot → Type 0
HasFewPhases machine slot = length (phases machine slot) ≤ counted_steps slot.moves + 2

-- What holds of each slot

left : (P : FirstSlot → Type 0) (xs ys : List FirstSlot) → AllHold P (xs ++ ys) → AllHold P xs
left P [] ys h = tt
left P (x ∷ xs) ys h = (h.0, left P xs ys h.1)

right : (P : FirstSlot → Type 0) (xs ys : List FirstSlot) → AllHold P (xs ++ ys) → AllHold P ys
right P [] ys h = h
right P (x ∷ xs) ys h = right P xs ys h.1

pub at-place : (P : FirstSlot → Type 0) (xs : List FirstSlot) → AllHold P xs → (number : ℕ) (slot : FirstSlot) → slice_get xs number ≡ Some slot → P slot
at-place P [] h number slot e = cc
at-place P (x ∷ xs) h zero slot e = subst P (ap (found_or x) e) h.0
at-place P (x ∷ xs) h (suc number) slot e = at-place P xs h.1 number slot e

pub through-stop : (P : FirstSlot → Type 0) (machine : Machine) (slots : List FirstSlot) → AllHold P slots → AllHold P (slots_through_stop machine slots)
through-stop P machine [] h = tt
through-stop P machine (slot ∷ slots) h = (h.0, go (slot_outcome machine slot) (through-stop P machine slots h.1))
  where
    go : (outcome : SlotOutcome) → AllHold P (slots_through_stop machine slots) →
        AllHold P (elim outcome [ Fine ↦ slots_through_stop machine slots | Race pair ↦ [] | Hyper ↦ [] ])
    go Fine rest = rest
    go (Race pair) rest = tt
    go Hyper rest = tt

within : (P : FirstSlot → Type 0) (xs : List FirstSlot) (begins ends : ℕ) → AllHold P xs → AllHold P (drop begins (take ends xs))
within P xs begins ends h =
    right P (take begins (take ends xs)) (drop begins (take ends xs))
    (subst (AllHold P) (sym (take-append-drop begins (take ends xs))) (left P (take ends xs) (drop ends xs) (subst (AllHold P) (sym (take-append-drop ends xs)) h)))

-- Phases

-- the phases of some slots
window-few : (machine : Machine) (slots : List FirstSlot) → AllHold (HasFewPhases machine) slots →
    length (slots_phases machine slots) ≤ sum_by (λ (slot : FirstSlot). counted_steps slot.moves) slots + 2 * length slots
window-few machine [] h = omega arith
window-few machine (slot ∷ slots) h =
    let rest : length (slots_phases machine slots) ≤ sum_by (λ (slot : FirstSlot). counted_steps slot.moves) slots + 2 * length slots = window-few machine slots h.1 in
    let own : length (phases machine slot) ≤ counted_steps slot.moves + 2 = h.0 in
    let long : length (phases machine slot ++ slots_phases machine slots) ≡ length (phases machine slot) + length (slots_phases machine slots) =
    length-append (phases machine slot) (slots_phases machine slots) in
    let sum : sum_by (λ (slot : FirstSlot). counted_steps slot.moves) (slot ∷ slots) ≡ counted_steps slot.moves + sum_by (λ (slot : FirstSlot). counted_steps slot.moves) slots =
    sum_by-cons (λ (slot : FirstSlot). counted_steps slot.moves) slot slots in
    omega (arith, rest, own, long, sum)

-- those of a slot more can be numbered on
pub next-fits : SlotPhasesAreFew → (codes : List Code) (design : FlatDesign) (plan : TestPlan) (pushed closed steps count : ℕ) (before : BetweenSlots) (slots : PushedSlots) (log : SlotLog)
    (runs : List RunEnd) → KeepsTrace codes design plan pushed closed steps count before slots → IsSlotAt codes design plan pushed log runs →
    is_full (pushed - closed) (window_steps design plan closed pushed) ≡ false → count + length log.phases < 2 ^ 32
next-fits law codes design plan pushed closed steps count before slots log runs had next room =
    let machine = good_machine design in
    let all : AllHold (HasFewPhases machine) (good_slots design plan) = through-stop (HasFewPhases machine) machine (first_run machine plan.end) (law machine plan.end) in
    let few : length (slots_phases machine (window_slots design plan closed pushed)) ≤ window_steps design plan closed pushed + 2 * length (window_slots design plan closed pushed) =
    window-few machine (window_slots design plan closed pushed) (within (HasFewPhases machine) (good_slots design plan) closed pushed all) in
    let counted : count ≡ length (slots_phases machine (window_slots design plan closed pushed)) = had.runs_kept.phase_count in
    let kept : length (window_slots design plan closed pushed) ≡ length (take pushed (good_slots design plan)) - closed = length-drop closed (take pushed (good_slots design plan)) in
    let cut : length (take pushed (good_slots design plan)) ≡ min pushed (length (good_slots design plan)) = length-take pushed (good_slots design plan) in
    let left_room = room-left (pushed - closed) (window_steps design plan closed pushed) room in
    let few_slots : pushed - closed < 64 = left_room.0 in
    let few_steps : window_steps design plan closed pushed < 200000 = left_room.1 in
    let own : length (phases machine next.slot) ≤ counted_steps next.slot.moves + 2 =
    at-place (HasFewPhases machine) (good_slots design plan) all pushed next.slot next.stands in
    let same : steps_logged log ≡ counted_steps next.slot.moves = steps-are machine (first_turn pushed) next.slot log next.logged in
    let most : steps_logged log ≤ 100000 = steps_logged-at codes design plan pushed log runs next in
    let logged : length log.phases ≡ length (phases machine next.slot) = log-count codes design plan pushed log runs next in
    omega (arith, few, counted, kept, cut, few_slots, few_steps, own, same, most, logged)
