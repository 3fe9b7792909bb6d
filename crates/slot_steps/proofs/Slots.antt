-- The process steps of a slot from moment to moment (steps by IEEE 1364-2001, clause 9; slots by clause 5).
use Rattle.std.proofs.Common.{◌≡◌, ℕ, ◌+◌, ◌≤◌, List, [], ◌∷◌, ◌++◌, Bool, cond, refl, sym, ap, ◌∙◌, arith, inl, inr, append-nil}
use Rattle.std.specs.Prelude.{Option, None, sum_by}
use Rattle.std.proofs.lemmas.Bool.{cases_lt}
use Rattle.std.proofs.lemmas.List.Sums.{sum_by-append, sum_by_push, sum_by-cons}
use Rattle.v_design.specs.Designs.{Machine}
use Rattle.v_design.specs.States.{State, Event, Step, LaneStep, Evaluation, NetUpdate, TurnKind, after, turn_of}
use Rattle.v_design.specs.Runs.{Move, Happens, Turns, counted_steps, first_moves, is_counted, made, most_steps, slot_moves}
use Rattle.v_design.specs.Grades.{Phase, cut}
use Rattle.v_design.specs.OwnSteps.{is_process_step}
use Rattle.v_design.specs.WellFormed.{KeepsRules}
use Rattle.copy_laws.specs.Beside.{AreFirst}
use Rattle.machine_laws.specs.SlotLoop.{Moment, ComesTo, EndsAt, EventsGoOn, after_event, after_events, after_turn, first_moment, phases_so_far, present_phase, slot_from, steps_of}
use Rattle.machine_events.specs.Steps.{event_steps, phase_steps, process_steps, step_of, steps-cons, steps-few, steps_so_far}

-- Moments

pub so_far-begin : (begins : State) → steps_so_far (first_moment begins) ≡ 0
so_far-begin begins = refl

so_far-event : (machine : Machine) (event : Event) (at : Moment) → steps_so_far (after_event machine event at) ≡ steps_so_far at + step_of event
so_far-event machine event at =
    ap (λ n. phase_steps at.ended + n) (sum_by_push step_of at.events event) ∙ regroup (phase_steps at.ended) (event_steps at.events) (step_of event)
  where
    regroup : (a b c : ℕ) → a + (b + c) ≡ a + b + c
    regroup a b c = omega arith

pub so_far-events : (machine : Machine) (events : List Event) (at : Moment) → steps_so_far (after_events machine events at) ≡ steps_so_far at + event_steps events
so_far-events machine [] at = plus-none (steps_so_far at)
  where
    plus-none : (n : ℕ) → n ≡ n + 0
    plus-none n = omega arith
so_far-events machine (event ∷ events) at =
    let rest : steps_so_far (after_events machine events (after_event machine event at)) ≡ steps_so_far (after_event machine event at) + event_steps events =
    so_far-events machine events (after_event machine event at) in
    omega (arith, rest, so_far-event machine event at, steps-cons event events)

pub so_far-turn : (turn : TurnKind) (at : Moment) → steps_so_far (after_turn turn at) ≡ steps_so_far at
so_far-turn turn at =
    plus-none (phase_steps (at.ended ++ present_phase at ∷ [])) ∙ sum_by_push (λ (phase : Phase). event_steps phase.events) at.ended (present_phase at)
  where
    plus-none : (n : ℕ) → n + 0 ≡ n
    plus-none n = omega arith

-- The slot

-- those of some moves
abbrev pub move_steps : List Move → ℕ
move_steps moves = sum_by (λ (move : Move). cond (is_process_step move) 1 0) moves

-- the steps of the phases from one that has begun
cut-steps : (machine : Machine) (turn : Option TurnKind) (begins : State) (events : List Event) (state : State) (moves : List Move) →
    phase_steps (cut machine turn begins events state moves) ≡ event_steps events + move_steps moves
cut-steps machine turn begins events state [] = zeros (event_steps events)
  where
    zeros : (n : ℕ) → 0 + n ≡ n + 0
    zeros n = omega arith
cut-steps machine turn begins events state (Happens event ∷ moves) =
    cut-steps machine turn begins (events ++ event ∷ []) (after machine state event) moves
    ∙ ap (λ n. n + move_steps moves) (sum_by_push step_of events event)
    ∙ regroup (event_steps events) (step_of event) (move_steps moves)
    ∙ ap (λ n. event_steps events + n) (sym (sum_by-cons (λ (move : Move). cond (is_process_step move) 1 0) (Happens event) moves))
  where
    regroup : (a b c : ℕ) → a + b + c ≡ a + (b + c)
    regroup a b c = omega arith
cut-steps machine turn begins events state (Turns ∷ moves) =
    sum_by-cons (λ (phase : Phase). event_steps phase.events) (record { turn = turn; begins = begins; events = events })
    (cut machine (turn_of state) (made machine state Turns) [] (made machine state Turns) moves)
    ∙ ap (λ n. event_steps events + n)
    (cut-steps machine (turn_of state) (made machine state Turns) [] (made machine state Turns) moves ∙ sym (sum_by-cons (λ (move : Move). cond (is_process_step move) 1 0) Turns moves))

-- of a slot they are those so far and those of the moves from there on
slot-steps : (machine : Machine) (at : Moment) (comes : ComesTo machine at) →
    process_steps (slot_from machine at.begins) ≡ steps_so_far at + move_steps (slot_moves comes.most_left comes.steps_left machine at.state)
slot-steps machine at comes =
    let rest : List Move = slot_moves comes.most_left comes.steps_left machine at.state in
    let all : process_steps (slot_from machine at.begins) ≡ move_steps (comes.moves ++ rest) = ap move_steps comes.goes_on in
    let whole : phase_steps (cut machine None at.begins [] at.begins (comes.moves ++ rest)) ≡ 0 + move_steps (comes.moves ++ rest) =
    cut-steps machine None at.begins [] at.begins (comes.moves ++ rest) in
    let parts : phase_steps (cut machine None at.begins [] at.begins (comes.moves ++ rest)) ≡ phase_steps at.ended + phase_steps (cut machine at.turn at.phase_begins at.events at.state rest) =
    ap phase_steps (comes.cuts rest) ∙ sum_by-append (λ (phase : Phase). event_steps phase.events) at.ended (cut machine at.turn at.phase_begins at.events at.state rest) in
    let here : phase_steps (cut machine at.turn at.phase_begins at.events at.state rest) ≡ event_steps at.events + move_steps rest =
    cut-steps machine at.turn at.phase_begins at.events at.state rest in
    omega (arith, all, whole, parts, here)

-- those so far are those of the moves so far, which are process and lane steps
one-counted : (move : Move) → cond (is_process_step move) 1 0 ≤ cond (is_counted move) 1 0
one-counted (Happens (Step process)) = omega arith
one-counted (Happens (LaneStep process)) = omega arith
one-counted (Happens (Evaluation node)) = omega arith
one-counted (Happens (NetUpdate node)) = omega arith
one-counted Turns = omega arith

moves-counted : (moves : List Move) → move_steps moves ≤ counted_steps moves
moves-counted [] = omega arith
moves-counted (move ∷ moves) =
    let rest : move_steps moves ≤ counted_steps moves = moves-counted moves in
    omega (arith, rest, one-counted move, sum_by-cons (λ (m : Move). cond (is_process_step m) 1 0) move moves, sum_by-cons (λ (m : Move). cond (is_counted m) 1 0) move moves)

pub so_far-counted : (machine : Machine) (at : Moment) → ComesTo machine at → steps_so_far at ≤ at.steps
so_far-counted machine at comes =
    let whole : phase_steps (cut machine None at.begins [] at.begins (comes.moves ++ [])) ≡ 0 + move_steps (comes.moves ++ []) =
    cut-steps machine None at.begins [] at.begins (comes.moves ++ []) in
    let moves : move_steps (comes.moves ++ []) ≡ move_steps comes.moves = ap move_steps (append-nil comes.moves) in
    let parts : phase_steps (cut machine None at.begins [] at.begins (comes.moves ++ [])) ≡ phase_steps at.ended + phase_steps (cut machine at.turn at.phase_begins at.events at.state []) =
    ap phase_steps (comes.cuts []) ∙ sum_by-append (λ (phase : Phase). event_steps phase.events) at.ended (cut machine at.turn at.phase_begins at.events at.state []) in
    let here : phase_steps (cut machine at.turn at.phase_begins at.events at.state []) ≡ event_steps at.events + move_steps [] =
    cut-steps machine at.turn at.phase_begins at.events at.state [] in
    let none : move_steps [] ≡ 0 = refl in
    omega (arith, whole, moves, parts, here, none, moves-counted comes.moves, comes.counted)

pub so_far-within : (machine : Machine) (at : Moment) → ComesTo machine at → steps_so_far at ≤ process_steps (slot_from machine at.begins)
so_far-within machine at comes = let is = slot-steps machine at comes in omega (arith, is)

pub so_far-more : EventsGoOn → (machine : Machine) (events : List Event) (at : Moment) → KeepsRules machine.design → ComesTo machine at → AreFirst machine at.state events →
    at.steps + sum_by steps_of events ≤ most_steps + 1 → steps_so_far at + event_steps events ≤ process_steps (slot_from machine at.begins)
so_far-more on machine [] at rules comes first few =
    let none : event_steps [] ≡ 0 = refl in
    omega (arith, none, so_far-within machine at comes)
so_far-more on machine (event ∷ events) at rules comes first few =
    elim (cases_lt most_steps at.steps) [
      | inl past ↦
          let none : event_steps (event ∷ events) ≤ sum_by steps_of (event ∷ events) = steps-few (event ∷ events) in
          omega (arith, none, past, few, so_far-within machine at comes)
      | inr within ↦
          let next : ComesTo machine (after_event machine event at) = on machine at event rules comes within first.0 in
          let total = sum_by-cons steps_of event events in
          let rest : steps_so_far (after_event machine event at) + event_steps events ≤ process_steps (slot_from machine at.begins) =
          so_far-more on machine events (after_event machine event at) rules next first.1 (omega (arith, few, total)) in
          omega (arith, rest, so_far-event machine event at, steps-cons event events)
    ]

pub so_far-ends : (machine : Machine) (hyper : Bool) (at : Moment) → EndsAt machine hyper at → process_steps (slot_from machine at.begins) ≡ steps_so_far at
so_far-ends machine hyper at ends =
    let all : phase_steps (cut machine None at.begins [] at.begins (first_moves machine at.begins)) ≡ 0 + move_steps (first_moves machine at.begins) =
    cut-steps machine None at.begins [] at.begins (first_moves machine at.begins) in
    let are : phase_steps (cut machine None at.begins [] at.begins (first_moves machine at.begins)) ≡ phase_steps (phases_so_far at) = ap phase_steps ends.phases_are in
    let last : phase_steps (phases_so_far at) ≡ steps_so_far at = sum_by_push (λ (phase : Phase). event_steps phase.events) at.ended (present_phase at) in
    omega (arith, all, are, last)
