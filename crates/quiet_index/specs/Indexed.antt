-- What an index of the good machine's events by objects and nodes has to tell, so that nothing touches a copy that keeps values alone (IEEE 1364-2001, clause 5).
use Rattle.std.specs.Prelude.{◌≡◌, ℕ, ◌<◌, ◌≤◌, true, false, [], Some, is_some, slice_get}
use Rattle.vf_base.specs.Lists.{has, AllHold}
use Rattle.v_design.specs.Designs.{FlatDesign, FlatNode, StuckAt, TestPlan, good_machine}
use Rattle.v_design.specs.States.{Evaluation}
use Rattle.v_design.specs.Runs.{FirstSlot}
use Rattle.v_design.specs.WellFormed.{KeepsRules}
use Rattle.copy_laws.specs.Differences.{Differences, own_of}
use Rattle.copy_laws.specs.Touches.{site_is_object, site_is_node}
use Rattle.copy_laws.specs.Windows.{IsCopyAt, good_slots}
use Rattle.grade_laws.specs.Ahead.{StopsAfter}
use Rattle.grade_laws.specs.Grading.{good_stop, faulty_stop}
use Rattle.trace_window.specs.Moments.{Seen, slot_seen}
use Rattle.trace_window.specs.Touched.{event_touches}
use Rattle.quiet_slots.specs.Quiet.{IsQuiet}

-- an event of the good machine leaves a copy alone: it reads and writes no object that differs, nor the fault's variable, and evaluates neither the fault's node nor one that reads such an object
pub record LeavesAlone (design : FlatDesign) (fault : StuckAt) (d : Differences) (seen : Seen) : Type 0 where
  pub objects : (object : ℕ) → is_some (own_of d.values object) ≡ true → event_touches (good_machine design) object seen ≡ false
  pub site_object : (object : ℕ) → site_is_object fault.site object ≡ true → event_touches (good_machine design) object seen ≡ false
  pub site_node : (number : ℕ) → seen.event ≡ Evaluation number → site_is_node fault.site number ≡ false
  pub inputs : (number input : ℕ) (node : FlatNode) → seen.event ≡ Evaluation number → slice_get design.nodes number ≡ Some node → has node.inputs input ≡ true →
      is_some (own_of d.values input) ≡ false

-- after one time and up to another each event of the good machine leaves a copy alone
abbrev pub AllLeaveAlone : FlatDesign → TestPlan → StuckAt → Differences → ℕ → ℕ → Type 0
AllLeaveAlone design plan fault d from until =
    (number : ℕ) (slot : FirstSlot) → slice_get (good_slots design plan) number ≡ Some slot → from < slot.begins.time → slot.begins.time ≤ until →
    AllHold (LeavesAlone design fault d) (slot_seen (good_machine design) slot)

-- where a copy that keeps values alone is the faulty machine's state, events that leave it alone touch nothing: what a node's update would write that differs, it writes only after the node was
-- evaluated, and a net differs only where its node is the fault's or reads what differs
abbrev pub IndexTellsQuiet : Type 0
IndexTellsQuiet =
    (design : FlatDesign) (plan : TestPlan) (fault : StuckAt) (d : Differences) (from until : ℕ) → KeepsRules design → IsCopyAt design plan fault from d → d.activities ≡ [] → d.updates ≡ [] →
    StopsAfter from (good_stop design plan) → StopsAfter from (faulty_stop design plan fault) → AllLeaveAlone design plan fault d from until → IsQuiet design plan fault d from until
