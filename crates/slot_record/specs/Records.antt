-- What is recorded of a phase: its log with causes and the actor of each event (phases and their events by IEEE 1364-2001, clause 5).
use Rattle.std.proofs.Common.{◌∙◌, sym, ap, subst}
use Rattle.std.specs.Prelude.{◌≡◌, ℕ, List, [], ◌∷◌, ◌++◌, map, length, Option, Some, None, slice_get}
use Rattle.vf_base.specs.Base.{object_number, process_number, node_number}
use Rattle.v_design.specs.Designs.{FlatNode, Machine}
use Rattle.v_design.specs.States.{State, Event, Step, LaneStep, Evaluation, NetUpdate, after}
use Rattle.v_design.specs.Accesses.{Writing, ObjectAccess, accesses_of, held_accesses}
use Rattle.v_design.specs.PhaseLogs.{NotedEvent, cause_of, note_of, writer_process, writer_line, log_of_noted}
use Rattle.event_causes.specs.Causes.{AreCausesOf, Tells}
use Rattle.causal_monitor.specs.Phases.{PhaseOfSlot, IsLogOf}
use Rattle.causal_monitor.specs.declared.slot.Actor.{Actor}
use Rattle.causal_monitor.specs.declared.slot.Actor.TheVariants.{Step as ActsStep, Lane as ActsLane, Eval as ActsEval, Move as ActsMove}
use Rattle.value_change.specs.declared.change.Change.{Change}
use Rattle.slot_record.specs.declared.phase.PhaseRecord.{PhaseRecord}

-- the event of an actor
abbrev pub event_of : Actor → Event
event_of (ActsStep process) = Step (process_number process)
event_of (ActsLane process) = LaneStep (process_number process)
event_of (ActsEval node) = Evaluation (node_number node)
event_of (ActsMove node) = NetUpdate (node_number node)

-- how many processes and objects a record is for
abbrev pub process_count : PhaseRecord → ℕ
process_count kept = length kept.causes.steps.items

abbrev pub object_count : PhaseRecord → ℕ
object_count kept = length kept.causes.changes.items

-- What is kept stands for a phase of a number that a state begins, with the events that were noted so far: the log, the causes, and who acted in each event.
pub record IsRecordOf (machine : Machine) (number : ℕ) (begins : State) (noted : List NotedEvent) (kept : PhaseRecord) : Type 0 where
  pub time : kept.log.time ≡ begins.time
  pub numbered : kept.log.phase ≡ number
  pub log : kept.log.log ≡ log_of_noted machine begins noted
  pub causes : AreCausesOf machine noted kept.causes
  pub actors : map event_of kept.actors.items ≡ map (λ (n : NotedEvent). n.event) noted
  -- the log names objects of the design
  pub names : IsLogOf machine.design kept.log.log

-- the same is kept of a phase
pub record SameRecord (old new : PhaseRecord) : Type 0 where
  pub log : new.log ≡ old.log
  pub causes : new.causes ≡ old.causes
  pub actors : new.actors ≡ old.actors

-- what is kept stands for the same phase
pub same-record : (machine : Machine) (number : ℕ) (begins : State) (noted : List NotedEvent) (old new : PhaseRecord) → SameRecord old new → IsRecordOf machine number begins noted old →
    IsRecordOf machine number begins noted new
same-record machine number begins noted old new same had = record {
  time = ap (λ (l : PhaseOfSlot). l.time) same.log ∙ had.time;
  numbered = ap (λ (l : PhaseOfSlot). l.phase) same.log ∙ had.numbered;
  log = ap (λ (l : PhaseOfSlot). l.log) same.log ∙ had.log;
  causes = subst (AreCausesOf machine noted) (sym same.causes) had.causes;
  actors = (λ i. map event_of ((same.actors i).items)) ∙ had.actors;
  names = subst (λ (l : PhaseOfSlot). IsLogOf machine.design l.log) (sym same.log) had.names;
}

-- what is kept stands for a phase of some machine
pub record IsRecord (kept : PhaseRecord) : Type 0 where
  pub machine : Machine
  pub number : ℕ
  pub begins : State
  pub noted : List NotedEvent
  pub stands : IsRecordOf machine number begins noted kept

-- what is kept stands for a phase of some machine, of which a node has these inputs
pub record IsNodeRecord (node : ℕ) (inputs : List ℕ) (kept : PhaseRecord) : Type 0 where
  pub machine : Machine
  pub number : ℕ
  pub begins : State
  pub noted : List NotedEvent
  pub stands : IsRecordOf machine number begins noted kept
  pub text : FlatNode
  pub is_text : slice_get machine.design.nodes node ≡ Some text
  pub has_inputs : text.inputs ≡ inputs

-- a phase without events, with the accesses that it holds from its beginning
abbrev pub held_phase : ℕ → ℕ → List ObjectAccess → PhaseOfSlot
held_phase time number held = record { time = time; phase = number; log = record { held = held; events = [] } }

-- where a phase of this time begins in a state with these accesses held, and the causes are those of the machine, what is kept stands for the phase without events
abbrev pub BeginsRecord : (time number : ℕ) (held : List ObjectAccess) (old new : PhaseRecord) → Type 0
BeginsRecord time number held old new =
    (machine : Machine) (earlier : List NotedEvent) (begins : State) → AreCausesOf machine earlier old.causes → begins.time ≡ time → held ≡ held_accesses machine begins →
    IsRecordOf machine number begins [] new

-- where what is kept stands for a phase, it comes to stand for it with one more process or lane step in a state, of which the line, the accesses, the objects that it changed and the processes whose
-- waits it ended are told
abbrev pub RecordsStep : (event : Event) (line : ℕ) (accesses : List ObjectAccess) (changed ended : List ℕ) (old new : PhaseRecord) → Type 0
RecordsStep event line accesses changed ended old new =
    (machine : Machine) (number : ℕ) (begins : State) (noted : List NotedEvent) (state : State) → IsRecordOf machine number begins noted old →
    line ≡ writer_line machine state event None → accesses ≡ accesses_of machine (writer_process event None) line state event → Tells machine state event changed ended →
    IsRecordOf machine number begins (noted ++ note_of machine noted state event ∷ []) new

-- the write of a change, with the process and the line of the statement that it follows
abbrev pub write_of_change : ℕ → ℕ → Change → ObjectAccess
write_of_change process line change = record { act = Writing change.old change.new; object = object_number change.object; process = process; line = line }

-- an evaluation of a node and the update of its nets, in a state
abbrev pub with_node_noted : Machine → List NotedEvent → State → ℕ → List NotedEvent
with_node_noted machine noted state node =
    (noted ++ note_of machine noted state (Evaluation node) ∷ [])
    ++ note_of machine (noted ++ note_of machine noted state (Evaluation node) ∷ []) (after machine state (Evaluation node)) (NetUpdate node) ∷ []

-- what is told of an update of a node's nets: its changes in object order, then the accesses of the waits that it ended, and of whom
pub record TellsUpdate (machine : Machine) (state : State) (node : ℕ) (changes : List Change) (accesses : List ObjectAccess) (ended : List ℕ) : Type 0 where
  pub accesses_are : (process line : ℕ) → map (write_of_change process line) changes ++ accesses ≡ accesses_of machine process line state (NetUpdate node)
  pub tells : Tells machine state (NetUpdate node) (map (λ (change : Change). object_number change.object) changes) ended

-- what is kept stands for a phase of some machine, in which this is the cause of an event that comes next
pub record Follows (event : Event) (cause : Option ℕ) (kept : PhaseRecord) : Type 0 where
  pub machine : Machine
  pub number : ℕ
  pub begins : State
  pub noted : List NotedEvent
  pub stands : IsRecordOf machine number begins noted kept
  pub is_cause : cause ≡ cause_of machine noted event

-- where what is kept stands for a phase, it comes to stand for it with one more evaluation of a node, of which the cause is told
abbrev pub RecordsEvaluation : (node : ℕ) (cause : Option ℕ) (old new : PhaseRecord) → Type 0
RecordsEvaluation node cause old new =
    (machine : Machine) (number : ℕ) (begins : State) (noted : List NotedEvent) (state : State) → IsRecordOf machine number begins noted old → cause ≡ cause_of machine noted (Evaluation node) →
    IsRecordOf machine number begins (noted ++ note_of machine noted state (Evaluation node) ∷ []) new

-- the same of an update of a node's nets
abbrev pub RecordsUpdate : (node : ℕ) (cause : Option ℕ) (changes : List Change) (accesses : List ObjectAccess) (ended : List ℕ) (old new : PhaseRecord) → Type 0
RecordsUpdate node cause changes accesses ended old new =
    (machine : Machine) (number : ℕ) (begins : State) (noted : List NotedEvent) (state : State) → IsRecordOf machine number begins noted old → cause ≡ cause_of machine noted (NetUpdate node) →
    TellsUpdate machine state node changes accesses ended → IsRecordOf machine number begins (noted ++ note_of machine noted state (NetUpdate node) ∷ []) new

-- where what is kept stands for a phase, it comes to stand for it with one more evaluation of a node and update of its nets
abbrev pub RecordsNode : (node : ℕ) (inputs : List ℕ) (changes : List Change) (accesses : List ObjectAccess) (ended : List ℕ) (old new : PhaseRecord) → Type 0
RecordsNode node inputs changes accesses ended old new =
    (machine : Machine) (number : ℕ) (begins : State) (noted : List NotedEvent) (state : State) (text : FlatNode) → IsRecordOf machine number begins noted old →
    slice_get machine.design.nodes node ≡ Some text → text.inputs ≡ inputs → TellsUpdate machine (after machine state (Evaluation node)) node changes accesses ended →
    IsRecordOf machine number begins (with_node_noted machine noted state node) new
