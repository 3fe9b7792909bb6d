-- The slots and the steps of a window as it grows.
use Rattle.std.proofs.Common.{◌≡◌, ℕ, zero, suc, ◌+◌, ◌<◌, ◌≤◌, ◌^◌, List, [], ◌∷◌, ◌++◌, length, take, drop, sym, ap, subst, ◌∙◌, zero-add, arith}
use Rattle.std.specs.Prelude.{Option, Some, None, slice_get, sum_by}
use Rattle.std.proofs.Math.ListN.{drop_of_length-le}
use Rattle.std.proofs.lemmas.List.{take_more, length-take, length-take-le, drop-append-le}
use Rattle.std.proofs.lemmas.List.Sums.{sum_by-append}
use Rattle.std.proofs.lemmas.Option.{slice_get_within, get_or_from_slice_get}
use Rattle.v_design.specs.Designs.{FlatDesign, Machine, TestPlan, good_machine}
use Rattle.v_design.specs.States.{State, start}
use Rattle.v_design.specs.Runs.{FirstSlot, counted_steps, first_moves, first_slots, first_run, next_slot}
use Rattle.v_design.specs.Grades.{SlotOutcome, Fine, Race, Hyper, slot_outcome}
use Rattle.v_design.specs.OwnSteps.{slots_through_stop}
use Rattle.v_design.specs.PlainDesigns.{plan_of}
use Rattle.v_design.specs.RulesHold.{plan_rules_hold}
use Rattle.v_design.specs.declared.plan.Plan.{Plan}
use Rattle.copy_laws.specs.Windows.{good_slots, window_slots, window_steps}

abbrev slot_steps : FirstSlot → ℕ
slot_steps slot = counted_steps slot.moves

-- one slot more
pub window_slots-more : (design : FlatDesign) (plan : TestPlan) (begins number : ℕ) (slot : FirstSlot) → slice_get (good_slots design plan) number ≡ Some slot → begins ≤ number →
    window_slots design plan begins (number + 1) ≡ window_slots design plan begins number ++ slot ∷ []
window_slots-more design plan begins number slot stands low = slots-more (good_slots design plan) stands
  where
    slots-more : (slots : List FirstSlot) → slice_get slots number ≡ Some slot → drop begins (take (number + 1) slots) ≡ drop begins (take number slots) ++ slot ∷ []
    slots-more slots at =
        let within : number < length slots = slice_get_within slots number slot at in
        let long : length (take number slots) ≡ number = length-take-le number slots (omega arith) in
        let grown : take (number + 1) slots ≡ take number slots ++ slot ∷ [] = take_more slots number slot within
        ∙ ap (λ s. take number slots ++ s ∷ []) (get_or_from_slice_get slots number slot slot at) in
        ap (drop begins) grown ∙ drop-append-le begins (take number slots) (slot ∷ []) (omega arith)

pub window_steps-more : (design : FlatDesign) (plan : TestPlan) (begins number : ℕ) (slot : FirstSlot) → slice_get (good_slots design plan) number ≡ Some slot → begins ≤ number →
    window_steps design plan begins (number + 1) ≡ window_steps design plan begins number + counted_steps slot.moves
window_steps-more design plan begins number slot stands low =
    ap (λ (l : List FirstSlot). sum_by slot_steps l) (window_slots-more design plan begins number slot stands low)
    ∙ sum_by-append slot_steps (window_slots design plan begins number) (slot ∷ [])
    ∙ ap (λ n. sum_by slot_steps (window_slots design plan begins number) + n) (zero-add (counted_steps slot.moves))

-- no slot
pub window_slots-none : (design : FlatDesign) (plan : TestPlan) (number : ℕ) → window_slots design plan number number ≡ []
window_slots-none design plan number = none (good_slots design plan)
  where
    none : (slots : List FirstSlot) → drop number (take number slots) ≡ []
    none slots = let long = length-take number slots in drop_of_length-le (take number slots) {i = number} (omega arith)

pub window_steps-none : (design : FlatDesign) (plan : TestPlan) (number : ℕ) → window_steps design plan number number ≡ 0
window_steps-none design plan number = ap (λ (l : List FirstSlot). sum_by slot_steps l) (window_slots-none design plan number)

through-length : (machine : Machine) (slots : List FirstSlot) → length (slots_through_stop machine slots) ≤ length slots
through-length machine [] = omega arith
through-length machine (slot ∷ slots) = go (slot_outcome machine slot) (through-length machine slots)
  where
    go : (outcome : SlotOutcome) → length (slots_through_stop machine slots) ≤ length slots →
        length (slot ∷ elim outcome [ Fine ↦ slots_through_stop machine slots | Race pair ↦ [] | Hyper ↦ [] ]) ≤ length (slot ∷ slots)
    go Fine h = omega arith
    go (Race pair) h = omega arith
    go Hyper h = omega arith

slots-length : (count : ℕ) (machine : Machine) (time : ℕ) (state : State) → length (first_slots count machine time state) ≤ count
slots-length zero machine time state = omega arith
slots-length (suc count) machine time state = go (next_slot machine time (record { begins = state; moves = first_moves machine state })) (λ next. slots-length count machine time next)
  where
    go : (found : Option State) → ((next : State) → length (first_slots count machine time next) ≤ count) →
        suc (length (elim found as (λ o. List FirstSlot) [ None ↦ [] | Some next ↦ first_slots count machine time next ])) ≤ suc count
    go None h = omega arith
    go (Some next) h = let low : length (first_slots count machine time next) ≤ count = h next in omega arith

-- the good first run has at most one slot for each time up to the plan's end
pub good_slots-length : (design : FlatDesign) (plan : TestPlan) → length (good_slots design plan) ≤ plan.end + 1
good_slots-length design plan =
    let all : length (good_slots design plan) ≤ length (first_run (good_machine design) plan.end) = through-length (good_machine design) (first_run (good_machine design) plan.end) in
    let most : length (first_run (good_machine design) plan.end) ≤ plan.end + 1 = slots-length (plan.end + 1) (good_machine design) plan.end (start (good_machine design)) in
    omega arith

-- so its slots can be counted
pub run-fits : (design : FlatDesign) (plan : TestPlan) (kept : Plan) → plan ≡ plan_of kept → length (good_slots design plan) < 2 ^ 63
run-fits design plan kept is =
    subst (λ p. length (good_slots design p) < 2 ^ 63) (sym is)
    (let end : (plan_of kept).end ≤ 1000000000000 = (plan_rules_hold (plan_of kept) kept.rules).end in let most = good_slots-length design (plan_of kept) in omega (arith, end, most))
