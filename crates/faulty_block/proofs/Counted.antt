-- How many of a block's process and lane steps are process steps (IEEE 1364-2001, clauses 5 and 9).
use Rattle.std.proofs.Common.{◌≡◌, ℕ, ◌+◌, List, [], ◌∷◌, Bool, true, false, refl, sym, ap, ◌∙◌, arith}
use Rattle.std.specs.Prelude.{Option, Some, None, is_some, sum_by}
use Rattle.std.proofs.lemmas.List.Sums.{sum_by-cons}
use Rattle.v_design.specs.Designs.{Machine}
use Rattle.v_design.specs.States.{State, NodeState, Event, Step, LaneStep, Evaluation, NetUpdate, after}
use Rattle.v_design.specs.Runs.{first_event, least_work, named_event, or_event, work_of}
use Rattle.machine_laws.specs.SlotLoop.{first_lane, first_ready, steps_of}
use Rattle.machine_events.specs.Steps.{event_steps, step_of, steps-cons}
use Rattle.copy_laws.specs.Beside.{AreFirst}
use Rattle.block_runner.proofs.Runs.{lanes-stay}

-- What the first order takes

-- the work on nodes is no step of a lane
least-node : (number process : ℕ) (marked pending : Bool) (others : Option Event) → (others ≡ Some (LaneStep process) → ⊥) → least_work number marked pending others ≡ Some (LaneStep process) → ⊥
least-node number process true pending others fails e = cc
least-node number process false true others fails e = cc
least-node number process false false others fails e = fails e

work-node : (number process : ℕ) (nodes : List NodeState) → work_of number nodes ≡ Some (LaneStep process) → ⊥
work-node number process [] e = cc
work-node number process (node ∷ nodes) e =
    least-node number process node.marked (is_some node.pending) (work_of (number + 1) nodes) (work-node (number + 1) process nodes) e

-- where no lane has an update, none takes a step
no_lane-event : (state : State) (process : ℕ) → first_lane state ≡ None → first_event state ≡ Some (LaneStep process) → ⊥
no_lane-event state process none e = by (work_of 0 state.nodes) (work-node 0 process state.nodes) e
  where
    step-none : (ready : Option ℕ) → named_event Step ready ≡ Some (LaneStep process) → ⊥
    step-none None f = cc
    step-none (Some number) f = cc

    by : (work : Option Event) → (work ≡ Some (LaneStep process) → ⊥) →
        or_event work (or_event (named_event LaneStep (first_lane state)) (named_event Step (first_ready state))) ≡ Some (LaneStep process) → ⊥
    by (Some event) fails f = fails f
    by None fails f =
        step-none (first_ready state) (ap (λ (lane : Option ℕ). or_event (named_event LaneStep lane) (named_event Step (first_ready state))) (sym none) ∙ f)

-- The steps of a block

one-step : (event : Event) → ((process : ℕ) → LaneStep process ≡ event → ⊥) → step_of event ≡ steps_of event
one-step (Step process) fails = refl
one-step (LaneStep process) fails = absurd (fails process refl)
one-step (Evaluation node) fails = refl
one-step (NetUpdate node) fails = refl

-- in a block that a process begins all are process steps
pub process-steps : (machine : Machine) (state : State) (events : List Event) → first_lane state ≡ None → AreFirst machine state events → event_steps events ≡ sum_by steps_of events
process-steps machine state [] none first = refl
process-steps machine state (event ∷ events) none first =
    let other : (process : ℕ) → LaneStep process ≡ event → ⊥ = λ process same. no_lane-event state process none (first.0 ∙ ap (λ (e : Event). Some e) (sym same)) in
    let rest : event_steps events ≡ sum_by steps_of events = process-steps machine (after machine state event) events (lanes-stay machine state event other none) first.1 in
    omega (arith, rest, one-step event other, steps-cons event events, sum_by-cons steps_of event events)
