-- A window has at most as many process runs as steps (IEEE 1364-2001, clauses 5 and 9).
use Rattle.std.proofs.Common.{◌≡◌, ℕ, ◌+◌, ◌-◌, ◌<◌, ◌≤◌, ◌^◌, Bool, true, false, cond, List, [], ◌∷◌, ◌++◌, map, length, refl, sym, ap, ◌∙◌, arith, length-append}
use Rattle.std.specs.Prelude.{sum_by}
use Rattle.std.proofs.lemmas.List.{length-map}
use Rattle.std.proofs.lemmas.List.Sums.{sum_by-append, sum_by-cons}
use Rattle.vf_base.specs.Lists.{joined, map_numbered}
use Rattle.v_design.specs.Designs.{FlatDesign, Machine, TestPlan, good_machine}
use Rattle.v_design.specs.States.{State, Event, Step, LaneStep, Evaluation, NetUpdate, after, step_of, is_ready}
use Rattle.v_design.specs.Runs.{FirstSlot, counted_steps}
use Rattle.v_design.specs.Grades.{Phase, phases}
use Rattle.process_code.specs.declared.code.Code.{Code}
use Rattle.run_ends.specs.RunEnds.{Ender, ender_if, ender_of, enders_in, phase_enders, slot_enders, ender_told}
use Rattle.copy_laws.specs.Windows.{window_slots, window_steps}
use Rattle.between_slots.specs.Between.{slots_phases, window_phases}
use Rattle.good_trace.specs.declared.between.BetweenSlots.{BetweenSlots}
use Rattle.good_trace.specs.declared.pushed.PushedSlots.{PushedSlots}
use Rattle.good_trace.specs.RunsKept.{KeepsTrace}
use Rattle.good_trace.proofs.Counting.{is_counted_event, count_events, slot-steps}

-- an event ends a run at most where it is a step
if-few : (ready : Bool) (process : ℕ) → length (ender_if ready process) ≤ 1
if-few true process = omega arith
if-few false process = omega arith

event-few : (machine : Machine) (state : State) (event : Event) → length (ender_of machine state event) ≤ cond (is_counted_event event) 1 0
event-few machine state (Step process) = if-few (is_ready (step_of machine state process).next) process
event-few machine state (LaneStep process) = omega arith
event-few machine state (Evaluation node) = omega arith
event-few machine state (NetUpdate node) = omega arith

events-few : (machine : Machine) (state : State) (events : List Event) → length (enders_in machine state events) ≤ count_events events
events-few machine state [] = omega arith
events-few machine state (event ∷ events) =
    let one : length (ender_of machine state event) ≤ cond (is_counted_event event) 1 0 = event-few machine state event in
    let rest : length (enders_in machine (after machine state event) events) ≤ count_events events = events-few machine (after machine state event) events in
    let long : length (ender_of machine state event ++ enders_in machine (after machine state event) events)
    ≡ length (ender_of machine state event) + length (enders_in machine (after machine state event) events) =
    length-append (ender_of machine state event) (enders_in machine (after machine state event) events) in
    let count : count_events (event ∷ events) ≡ cond (is_counted_event event) 1 0 + count_events events = sum_by-cons (λ (e : Event). cond (is_counted_event e) 1 0) event events in
    omega (arith, one, rest, long, count)

-- the steps of some phases
abbrev steps_in : List Phase → ℕ
steps_in list = sum_by count_events (map (λ (p : Phase). p.events) list)

phases-few : (machine : Machine) (number : ℕ) (list : List Phase) → length (joined (map_numbered (phase_enders machine) number list)) ≤ steps_in list
phases-few machine number [] = omega arith
phases-few machine number (phase ∷ list) =
    let own : length (enders_in machine phase.begins phase.events) ≤ count_events phase.events = events-few machine phase.begins phase.events in
    let same : length (phase_enders machine number phase) ≡ length (enders_in machine phase.begins phase.events) =
    length-map (enders_in machine phase.begins phase.events) (λ (process : ℕ). let e : Ender = record { phase = number; process = process } in e) in
    let rest : length (joined (map_numbered (phase_enders machine) (number + 1) list)) ≤ steps_in list = phases-few machine (number + 1) list in
    let long : length (phase_enders machine number phase ++ joined (map_numbered (phase_enders machine) (number + 1) list))
    ≡ length (phase_enders machine number phase) + length (joined (map_numbered (phase_enders machine) (number + 1) list)) =
    length-append (phase_enders machine number phase) (joined (map_numbered (phase_enders machine) (number + 1) list)) in
    let count : steps_in (phase ∷ list) ≡ count_events phase.events + steps_in list = sum_by-cons count_events phase.events (map (λ (p : Phase). p.events) list) in
    omega (arith, own, same, rest, long, count)

map-more : (xs ys : List Phase) → map (λ (p : Phase). p.events) (xs ++ ys) ≡ map (λ (p : Phase). p.events) xs ++ map (λ (p : Phase). p.events) ys
map-more [] ys = refl
map-more (x ∷ xs) ys = ap (λ zs. x.events ∷ zs) (map-more xs ys)

-- those of some slots
slots-steps : (machine : Machine) (slots : List FirstSlot) → steps_in (slots_phases machine slots) ≡ sum_by (λ (slot : FirstSlot). counted_steps slot.moves) slots
slots-steps machine [] = refl
slots-steps machine (slot ∷ slots) =
    ap (sum_by count_events) (map-more (phases machine slot) (slots_phases machine slots))
    ∙ sum_by-append count_events (map (λ (p : Phase). p.events) (phases machine slot)) (map (λ (p : Phase). p.events) (slots_phases machine slots))
    ∙ (λ i. slot-steps machine slot i + slots-steps machine slots i) ∙ sym (sum_by-cons (λ (slot : FirstSlot). counted_steps slot.moves) slot slots)

-- the runs that a trace keeps
pub runs-few : (codes : List Code) (design : FlatDesign) (plan : TestPlan) (pushed closed steps count : ℕ) (before : BetweenSlots) (slots : PushedSlots) →
    KeepsTrace codes design plan pushed closed steps count before slots → length slots.table.runs.items < 2 ^ 32 - 1
runs-few codes design plan pushed closed steps count before slots had =
    let machine = good_machine design in
    let runs = slots.table.runs.items in
    let told : length (map ender_told runs) ≡ length (slot_enders machine (window_phases design plan closed pushed)) = ap length had.runs_kept.runs_are.order in
    let same : length (map ender_told runs) ≡ length runs = length-map runs ender_told in
    let few : length (slot_enders machine (window_phases design plan closed pushed)) ≤ steps_in (window_phases design plan closed pushed) =
    phases-few machine 1 (window_phases design plan closed pushed) in
    let all : steps_in (window_phases design plan closed pushed) ≡ window_steps design plan closed pushed = slots-steps machine (window_slots design plan closed pushed) in
    let counted : steps ≡ window_steps design plan closed pushed = had.slots_kept.counted in
    let most : steps ≤ 300000 = had.slots_kept.few_steps in
    omega (arith, told, same, few, all, counted, most)
