-- What the parts of a call do to a replay (IEEE 1364-2001, clause 5).
use Rattle.std.specs.Prelude.{◌≡◌, ℕ, Bool, true, false, List, [], ◌∷◌, Some, None, slice_get, ◌≤◌, length}
use Rattle.v_design.specs.PlainDesigns.{design_of}
use Rattle.v_design.specs.Designs.{FlatNode, Machine}
use Rattle.v_design.specs.States.{State, Event, Evaluation, NetUpdate, is_ready, is_any, is_quiescent}
use Rattle.v_design.specs.Runs.{Move, work_of}
use Rattle.v_design.specs.PhaseLogs.{NotedEvent}
use Rattle.event_causes.specs.Causes.{AreCausesOf}
use Rattle.order_laws.specs.Settling.{settling}
use Rattle.process_table.specs.Tables.{TableState, process_in}
use Rattle.process_table.specs.Arranged.{IsKept}
use Rattle.machine_events.specs.Parts.{AreBothOf}
use Rattle.race_laws.specs.Writes.{WritesAreOf}
use Rattle.cert_laws.specs.Replays.{Replay, with_events}
use Rattle.cert_replay.specs.declared.replaying.Replaying.{Replaying}
use Rattle.cert_replay.specs.declared.replaying.Stepper.{Stepper}
use Rattle.cert_replay.specs.declared.replaying.Stepper.TheVariants.{Process, Lane}
use Rattle.cert_replay.specs.Kept.{Keeps, SameRun}

-- whether a process is ready, or its lane has an update
abbrev pub may_step : TableState → Stepper → ℕ → Bool
may_step table Process process = is_ready (process_in table process).activity
may_step table Lane process = is_any (process_in table process).lane

-- a step is taken that is counted, so that no more phases of the slot ended than it has steps; the node events that follow aren't done
pub record TakesStep (event : Event) (old new : Replaying) : Type 0 where
  pub same : SameRun old new
  pub steps_are : new.steps ≡ old.steps
  pub takes : (machine : Machine) (replay : Replay) (k : Keeps machine replay old) → length k.before ≤ replay.steps → Keeps machine (with_events machine (event ∷ []) replay) new

-- the least node with work is worked on, if there is one
abbrev pub SettlesIf : Bool → Machine → Replay → Replaying → Type 0
SettlesIf true machine replay new =
    (node : ℕ) × (text : FlatNode) × (work_of 0 replay.now.nodes ≡ Some (Evaluation node)) × (slice_get machine.design.nodes node ≡ Some text)
    × Keeps machine (with_events machine (Evaluation node ∷ NetUpdate node ∷ []) replay) new
SettlesIf false machine replay new = (work_of 0 replay.now.nodes ≡ None) × Keeps machine replay new

pub record SettlesOne (more : Bool) (old new : Replaying) : Type 0 where
  pub same : SameRun old new
  pub settles : (machine : Machine) (replay : Replay) → Keeps machine replay old → SettlesIf more machine replay new

-- all node events are done
pub record Settles (old new : Replaying) : Type 0 where
  pub same : SameRun old new
  pub settles : (machine : Machine) (replay : Replay) → Keeps machine replay old → Keeps machine (with_events machine (settling machine replay.now) replay) new

-- whether no event is possible is told, and the replay stays
pub record TellsQuiet (quiet : Bool) (old new : Replaying) : Type 0 where
  pub same : SameRun old new
  pub quiet_is : (machine : Machine) (replay : Replay) → Keeps machine replay old → quiet ≡ is_quiescent replay.now
  pub stays : (machine : Machine) (replay : Replay) → Keeps machine replay old → Keeps machine replay new

-- a slot may begin with a state: the values, the nodes and the processes are those of the state, in which they are to write objects of the design alone
pub record Starts (machine : Machine) (begins : State) (r : Replaying) : Type 0 where
  pub both : AreBothOf machine begins r.nets r.table
  pub arranged : IsKept r.table
  pub earlier : List NotedEvent
  pub causes : AreCausesOf machine earlier r.record.phase.causes
  pub graph_is : design_of r.graph.now.design.now ≡ machine.design
  pub writes : WritesAreOf machine.design begins

pub record IsStarting (r : Replaying) : Type 0 where
  pub machine : Machine
  pub begins : State
  pub starts : Starts machine begins r

-- a slot begins, with its first phase
pub record BeginsSlot (old new : Replaying) : Type 0 where
  pub same : SameRun old new
  pub begins : (machine : Machine) (begins : State) (moves : List Move) → Starts machine begins old →
      Keeps machine (record { begins = begins; events = []; now = begins; number = 1; steps = 0; moves = moves }) new
