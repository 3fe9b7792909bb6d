-- What a state within a phase has of its design (IEEE 1364-2001, clause 5).
use Rattle.std.specs.Prelude.{◌≡◌, List}
use Rattle.v_design.specs.Designs.{Machine}
use Rattle.v_design.specs.Assignments.{AreSettled}
use Rattle.v_design.specs.States.{State, Event}
use Rattle.v_design.specs.Runs.{happened}
use Rattle.v_design.specs.Laws.{IsStateOf, BeginsPhase}
use Rattle.v_design.specs.WellFormed.{KeepsRules}
use Rattle.order_laws.specs.NodesRest.{HasWidths}
use Rattle.machine_laws.specs.SlotLoop.{NoNodeWorks}

-- a state that some events lead to from one in which a phase begins as the laws ask
pub record IsInPhase (machine : Machine) (state : State) : Type 0 where
  pub begins : State
  pub events : List Event
  pub asked : BeginsPhase machine begins
  pub is : state ≡ happened machine begins events

-- a state has a part for each part of the design, each value is as wide as its object, and where no node has work the nets are settled
pub record FitsDesign (machine : Machine) (state : State) : Type 0 where
  pub parts : IsStateOf machine state
  pub widths : HasWidths machine state.values
  pub settled : NoNodeWorks state → AreSettled machine state.values

-- so does each state within a phase
abbrev pub PhasesFit : Type 0
PhasesFit = (machine : Machine) (state : State) → KeepsRules machine.design → IsInPhase machine state → FitsDesign machine state
