-- The node events that a state leads to, the least node first, and that they settle it (IEEE 1364-2001, clause 5).
use Rattle.std.specs.Prelude.{◌≡◌, ℕ, zero, suc, ◌*◌, true, false, List, [], ◌∷◌, length, Some, None}
use Rattle.v_design.specs.Designs.{Machine}
use Rattle.v_design.specs.States.{State, Event, is_process_event, possible, after, is_quiescent}
use Rattle.v_design.specs.Runs.{happened, work_of, first_event}
use Rattle.v_design.specs.WellFormed.{KeepsRules}
use Rattle.v_design.specs.Laws.{BeginsPhase}

-- the events of nodes with work, the least first; so many at most
abbrev pub node_events : ℕ → Machine → State → List Event
node_events zero machine state = []
node_events (suc more) machine state = elim (work_of 0 state.nodes) [ None ↦ [] | Some event ↦ event ∷ node_events more machine (after machine state event) ]

-- all node events that a state leads to: each node is evaluated and updated once at most
abbrev pub settling : Machine → State → List Event
settling machine state = node_events (2 * length machine.design.nodes) machine state

-- after them no node has work
abbrev pub SettlingEnds : Type 0
SettlingEnds =
    (machine : Machine) (begins : State) (events : List Event) → KeepsRules machine.design → BeginsPhase machine begins →
    work_of 0 (happened machine (happened machine begins events) (settling machine (happened machine begins events))).nodes ≡ None

-- The event that the first order takes

pub record FirstEvents : Type 0 where
  -- it is possible
  pub may : (state : State) (event : Event) → first_event state ≡ Some event → possible state event ≡ true
  -- where there is none no event is possible, and where none is possible no node has work
  pub none : (state : State) → first_event state ≡ None → is_quiescent state ≡ true
  pub idle : (state : State) → is_quiescent state ≡ true → work_of 0 state.nodes ≡ None
  -- the work of a node is an event of a node, and where no node has work the event is one of a process
  pub node : (state : State) (event : Event) → work_of 0 state.nodes ≡ Some event → is_process_event event ≡ false
  pub process : (state : State) (event : Event) → work_of 0 state.nodes ≡ None → first_event state ≡ Some event → is_process_event event ≡ true
