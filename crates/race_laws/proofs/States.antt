-- Each state of a run has its design's processes, and these write objects of the design alone.
use Rattle.std.proofs.Common.{◌≡◌, ℕ, zero, suc, ◌<◌, true, List, [], ◌∷◌, length, refl, ◌∙◌, arith}
use Rattle.std.proofs.lemmas.List.{length-map}
use Rattle.std.specs.Prelude.{Option, Some, None, slice_get}
use Rattle.four_value.specs.Values.{LogicValue}
use Rattle.v_design.specs.Designs.{FlatNode, Machine}
use Rattle.v_design.specs.Assignments.{ValueUpdate, value_at}
use Rattle.v_design.specs.States.{State, ProcessState, Event, Step, LaneStep, Evaluation, NetUpdate, TurnKind, PostponedTurn, UpdatesTurn, TimeTurn, start, found_or, idle_process, process_at}
use Rattle.v_design.specs.States.{is_ready, is_any, possible, woken_process, with_value, value_written, written_if, with_process, with_node}
use Rattle.v_design.specs.States.{step_of, after_step, write_of, first_update, after_lane_step}
use Rattle.v_design.specs.States.{evaluated, with_values, nets_updated, node_at, after, turned}
use Rattle.v_design.specs.Runs.{turned_by}
use Rattle.v_design.specs.WellFormed.{KeepsRules}
use Rattle.race_laws.proofs.Lists.{length-changed}
use Rattle.race_laws.proofs.Writers.{AreClear, BodiesClear, after-clear}
use Rattle.race_laws.proofs.Turned.{turned-clear, start-clear}
use Rattle.race_laws.proofs.Named.{IsObject, body-below}

-- The number of processes

count-written : (machine : Machine) (write : Option ValueUpdate) (state : State) → length (written_if machine write state).processes ≡ length state.processes
count-written machine None state = refl
count-written machine (Some update) state = length-map state.processes (woken_process update.object (value_at state.values update.object) (value_written machine state update))

count-values : (machine : Machine) (objects : List ℕ) (values : List LogicValue) (state : State) → length (with_values machine objects values state).processes ≡ length state.processes
count-values machine [] values state = refl
count-values machine (object ∷ objects) [] state = refl
count-values machine (object ∷ objects) (value ∷ values) state =
    count-values machine objects values (with_value machine object value state) ∙ length-map state.processes (woken_process object (value_at state.values object) value)

count-evaluated : (machine : Machine) (number : ℕ) (node : Option FlatNode) (state : State) → length (evaluated machine number node state).processes ≡ length state.processes
count-evaluated machine number None state = refl
count-evaluated machine number (Some node) state = refl

count-nets : (machine : Machine) (number : ℕ) (node : Option FlatNode) (pending : Option (List LogicValue)) (state : State) →
    length (nets_updated machine number node pending state).processes ≡ length state.processes
count-nets machine number None pending state = refl
count-nets machine number (Some node) None state = refl
count-nets machine number (Some node) (Some values) state = count-values machine node.outputs values (with_node number (λ old. record old { pending = None }) state)

count-after : (machine : Machine) (state : State) (event : Event) → length (after machine state event).processes ≡ length state.processes
count-after machine state (Step number) =
    count-written machine (write_of (step_of machine state number).action) (with_process number (after_step state (step_of machine state number)) state)
    ∙ length-changed state.processes number (after_step state (step_of machine state number))
count-after machine state (LaneStep number) =
    count-written machine (first_update (process_at state number).lane) (with_process number after_lane_step state) ∙ length-changed state.processes number after_lane_step
count-after machine state (Evaluation number) = count-evaluated machine number (slice_get machine.design.nodes number) state
count-after machine state (NetUpdate number) = count-nets machine number (slice_get machine.design.nodes number) (node_at state number).pending state

count-turned : (turn : TurnKind) (state : State) → length (turned turn state).processes ≡ length state.processes
count-turned PostponedTurn state = length-map state.processes _
count-turned UpdatesTurn state = length-map state.processes _
count-turned (TimeTurn time) state = length-map state.processes _

-- States of a run

-- each process is to write objects of the design alone, and the state has the design's processes
pub record IsOf (machine : Machine) (state : State) : Type 0 where
  pub writes : AreClear (IsObject machine.design) state
  pub count : length state.processes ≡ length machine.design.processes

pub is_of-after : (machine : Machine) (state : State) (event : Event) → BodiesClear (IsObject machine.design) machine → IsOf machine state → IsOf machine (after machine state event)
is_of-after machine state event bodies h =
    record { writes = after-clear (IsObject machine.design) machine state event bodies h.writes; count = count-after machine state event ∙ h.count }

pub is_of-turned : (machine : Machine) (turn : Option TurnKind) (state : State) → IsOf machine state → IsOf machine (turned_by turn state)
is_of-turned machine None state h = h
is_of-turned machine (Some turn) state h = record { writes = turned-clear (IsObject machine.design) turn state h.writes; count = count-turned turn state ∙ h.count }

pub is_of-start : (machine : Machine) → KeepsRules machine.design → IsOf machine (start machine)
is_of-start machine rules =
    record { writes = start-clear (IsObject machine.design) machine.design.processes (body-below machine.design rules); count = length-map machine.design.processes _ }

-- Which process an event is of

-- the process of a process or lane step is below a bound
abbrev pub IsBelow : ℕ → Event → Type 0
IsBelow bound (Step process) = process < bound
IsBelow bound (LaneStep process) = process < bound
IsBelow bound (Evaluation node) = Unit {0}
IsBelow bound (NetUpdate node) = Unit {0}

ready-below : (processes : List ProcessState) (n : ℕ) → is_ready (found_or idle_process (slice_get processes n)).activity ≡ true → n < length processes
ready-below [] n e = cc
ready-below (process ∷ processes) zero e = omega arith
ready-below (process ∷ processes) (suc n) e = omega (arith, ready-below processes n e)

lane-below : (processes : List ProcessState) (n : ℕ) → is_any (found_or idle_process (slice_get processes n)).lane ≡ true → n < length processes
lane-below [] n e = cc
lane-below (process ∷ processes) zero e = omega arith
lane-below (process ∷ processes) (suc n) e = omega (arith, lane-below processes n e)

-- an event that is possible is of a process of the design
pub event-below : (machine : Machine) (state : State) (event : Event) → IsOf machine state → possible state event ≡ true → IsBelow (length machine.design.processes) event
event-below machine state (Step number) h e = omega (arith, ready-below state.processes number e, h.count)
event-below machine state (LaneStep number) h e = omega (arith, lane-below state.processes number e, h.count)
event-below machine state (Evaluation number) h e = tt
event-below machine state (NetUpdate number) h e = tt
