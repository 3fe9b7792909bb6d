-- What an index of the good machine's events by objects and nodes has to tell, so that they touch no value in which a faulty machine in lockstep differs (IEEE 1364-2001, clause 5).
use Rattle.std.specs.Prelude.{◌≡◌, ℕ, true, false, List, Option, Some, is_some, slice_get}
use Rattle.four_value.specs.Values.{LogicValue}
use Rattle.vf_base.specs.Lists.{has, AllHold}
use Rattle.v_design.specs.Designs.{FlatNode, FlatDesign, StuckAt, good_machine, faulty_machine}
use Rattle.v_design.specs.States.{State, Event, Evaluation}
use Rattle.v_design.specs.WellFormed.{KeepsRules}
use Rattle.machine_laws.specs.SlotLoop.{NoNodeWorks}
use Rattle.copy_laws.specs.Beside.{Apart, AreFirst}
use Rattle.copy_laws.specs.Moves.{Within}
use Rattle.copy_laws.specs.Touches.{site_is_object, site_is_node}
use Rattle.trace_window.specs.Moments.{Seen, seen_from}
use Rattle.trace_window.specs.Touched.{event_touches}
use Rattle.lockstep_laws.specs.Lockstep.{AreInLockstep}
use Rattle.lockstep_laws.specs.Passing.{AreFree}
use Rattle.lockstep_laws.specs.Phases.{IsInPhase}
use Rattle.lockstep_laws.specs.Slots.{KeepsNothingSame}

-- two states are apart in the objects that have own values, and in no process
abbrev pub apart_values : (ℕ → Option LogicValue) → Apart
apart_values values = record { objects = λ object. is_some (values object); processes = λ process. false }

-- an event of the good machine leaves own values alone: it reads and writes no object that has one, nor the fault's variable, and evaluates neither the fault's node nor one that reads such an object
pub record LeavesValues (design : FlatDesign) (fault : StuckAt) (d : Within) (seen : Seen) : Type 0 where
  pub objects : (object : ℕ) → is_some (d.values object) ≡ true → event_touches (good_machine design) object seen ≡ false
  pub site_object : (object : ℕ) → site_is_object fault.site object ≡ true → event_touches (good_machine design) object seen ≡ false
  pub site_node : (number : ℕ) → seen.event ≡ Evaluation number → site_is_node fault.site number ≡ false
  pub inputs : (number input : ℕ) (node : FlatNode) → seen.event ≡ Evaluation number → slice_get design.nodes number ≡ Some node → has node.inputs input ≡ true → is_some (d.values input) ≡ false

-- in lockstep, where no own value is the good one, events of the first order from a moment on at which no node has work touch no object that differs where each leaves the own values alone: what a node's
-- update writes was evaluated among them, and a net differs only where its node is the fault's or reads what differs
abbrev pub IndexTellsFree : Type 0
IndexTellsFree =
    (design : FlatDesign) (fault : StuckAt) (d : Within) (good faulty : State) (events : List Event) → KeepsRules design → AreInLockstep d good faulty →
    KeepsNothingSame d good → IsInPhase (good_machine design) good → IsInPhase (faulty_machine design fault) faulty →
    NoNodeWorks good → AreFirst (good_machine design) good events → AllHold (LeavesValues design fault d) (seen_from (good_machine design) good events) →
    AreFree design fault (apart_values d.values) good events
