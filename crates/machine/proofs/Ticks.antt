-- The process steps of a slot are those of its phases, and each move adds its own (steps by IEEE 1364-2001, clause 9; phases by clause 5).
use Rattle.std.proofs.Common.{◌≡◌, ℕ, ◌+◌, List, [], ◌∷◌, ◌++◌, Bool, cond, sym, ap, ◌∙◌, arith}
use Rattle.std.specs.Prelude.{Option, None}
use Rattle.std.proofs.lemmas.List.Sums.{sum_by_push, sum_by-cons}
use Rattle.v_design.specs.Designs.{Machine}
use Rattle.v_design.specs.States.{State, Event, TurnKind, after, turn_of}
use Rattle.v_design.specs.Runs.{Move, Happens, Turns, made}
use Rattle.v_design.specs.Grades.{Phase, cut}
use Rattle.v_design.specs.OwnSteps.{is_process_step}
use Rattle.machine_laws.specs.SlotLoop.{Moment, EndsAt, slot_from, after_event, after_turn, present_phase}
use Rattle.machine.specs.Ticks.{process_steps, event_steps, phase_steps, steps_so_far}

-- One move more

steps-push : (events : List Event) (event : Event) → event_steps (events ++ event ∷ []) ≡ event_steps events + cond (is_process_step (Happens event)) 1 0
steps-push events event = sum_by_push (λ (e : Event). cond (is_process_step (Happens e)) 1 0) events event

-- an event adds one where it is a process step
pub so-far-event : (machine : Machine) (event : Event) (at : Moment) → steps_so_far (after_event machine event at) ≡ steps_so_far at + cond (is_process_step (Happens event)) 1 0
so-far-event machine event at =
    ap (λ n. phase_steps at.ended + n) (steps-push at.events event) ∙ regroup (phase_steps at.ended) (event_steps at.events) (cond (is_process_step (Happens event)) 1 0)
  where
    regroup : (a b c : ℕ) → a + (b + c) ≡ a + b + c
    regroup a b c = omega arith

-- a turn adds none
pub so-far-turn : (turn : TurnKind) (at : Moment) → steps_so_far (after_turn turn at) ≡ steps_so_far at
so-far-turn turn at =
    plus-none (phase_steps (at.ended ++ present_phase at ∷ [])) ∙ sum_by_push (λ (phase : Phase). event_steps phase.events) at.ended (present_phase at)
  where
    plus-none : (n : ℕ) → n + 0 ≡ n
    plus-none n = omega arith

-- The end

-- the steps of the phases from one that has begun
cut-steps : (machine : Machine) (turn : Option TurnKind) (begins : State) (events : List Event) (state : State) (moves : List Move) →
    phase_steps (cut machine turn begins events state moves) ≡ event_steps events + process_steps (record { begins = begins; moves = moves })
cut-steps machine turn begins events state [] = zeros (event_steps events)
  where
    zeros : (n : ℕ) → 0 + n ≡ n + 0
    zeros n = omega arith
cut-steps machine turn begins events state (Happens event ∷ moves) =
    cut-steps machine turn begins (events ++ event ∷ []) (after machine state event) moves
    ∙ ap (λ n. n + process_steps (record { begins = begins; moves = moves })) (steps-push events event)
    ∙ regroup (event_steps events) (cond (is_process_step (Happens event)) 1 0) (process_steps (record { begins = begins; moves = moves }))
    ∙ ap (λ n. event_steps events + n) (sym (sum_by-cons (λ (move : Move). cond (is_process_step move) 1 0) (Happens event) moves))
  where
    regroup : (a b c : ℕ) → a + b + c ≡ a + (b + c)
    regroup a b c = omega arith
cut-steps machine turn begins events state (Turns ∷ moves) =
    sum_by-cons (λ (phase : Phase). event_steps phase.events) (record { turn = turn; begins = begins; events = events })
    (cut machine (turn_of state) (made machine state Turns) [] (made machine state Turns) moves)
    ∙ ap (λ n. event_steps events + n)
    (cut-steps machine (turn_of state) (made machine state Turns) [] (made machine state Turns) moves ∙ sym (sum_by-cons (λ (move : Move). cond (is_process_step move) 1 0) Turns moves))

-- at its end a slot has the process steps so far
pub ends-steps : (machine : Machine) (hyper : Bool) (at : Moment) → EndsAt machine hyper at → process_steps (slot_from machine at.begins) ≡ steps_so_far at
ends-steps machine hyper at ends =
    sym (cut-steps machine None at.begins [] at.begins (slot_from machine at.begins).moves ∙ none-plus (process_steps (slot_from machine at.begins))) ∙ ap phase_steps ends.phases_are
    ∙ sum_by_push (λ (phase : Phase). event_steps phase.events) at.ended (present_phase at)
  where
    none-plus : (n : ℕ) → 0 + n ≡ n
    none-plus n = omega arith
