-- What is recorded of a slot: the log of the phases that ended, the record of the present one, and the first race so far (slots and phases by IEEE 1364-2001, clause 5).
use Rattle.std.specs.Prelude.{◌≡◌, ℕ, ◌+◌, List, [], ◌∷◌, ◌++◌, length, Option, Some, None, slice_get}
use Rattle.std.specs.Option.{option_map}
use Rattle.vf_base.specs.Base.{reported_pair}
use Rattle.v_design.specs.Designs.{FlatDesign, FlatNode, Machine}
use Rattle.v_design.specs.States.{State, Event, Evaluation, NetUpdate, TurnKind, after}
use Rattle.v_design.specs.Runs.{happened}
use Rattle.v_design.specs.Accesses.{ObjectAccess, accesses_of, held_accesses}
use Rattle.v_design.specs.PhaseLogs.{NotedEvent, writer_process, writer_line, noted_events}
use Rattle.v_design.specs.Grades.{Phase, first_race}
use Rattle.event_causes.specs.Causes.{AreCausesOf, Tells}
use Rattle.causal_monitor.specs.declared.slot.Turn.{Turn}
use Rattle.causal_monitor.specs.declared.slot.SlotLog.{SlotLog}
use Rattle.value_change.specs.declared.change.Change.{Change}
use Rattle.slot_record.specs.Records.{IsRecordOf, TellsUpdate}
use Rattle.slot_record.specs.SlotLogs.{turn_before, IsSlotLog}
use Rattle.slot_record.specs.declared.record.SlotRecord.{SlotRecord}

-- what is kept stands for a slot whose first phase comes after a given turn: these phases ended, and this is the present one so far
pub record RecordsSlot (machine : Machine) (first : Turn) (before : List Phase) (phase : Phase) (kept : SlotRecord) (log : SlotLog) : Type 0 where
  pub present : IsRecordOf machine (length before + 1) phase.begins (noted_events machine phase.begins phase.events) kept.phase
  pub logged : IsSlotLog machine first before log
  pub race_is : option_map reported_pair kept.race ≡ first_race machine 1 before
  pub numbered : kept.number ≡ length before + 1
  pub turn_is : kept.turn ≡ turn_before first phase.turn

-- the same between two phases, and at the slot's end
pub record RecordedSlot (machine : Machine) (first : Turn) (phases : List Phase) (kept : SlotRecord) (log : SlotLog) : Type 0 where
  pub earlier : List NotedEvent
  pub causes : AreCausesOf machine earlier kept.phase.causes
  pub logged : IsSlotLog machine first phases log
  pub race_is : option_map reported_pair kept.race ≡ first_race machine 1 phases
  pub numbered : kept.number ≡ length phases

-- the log of a slot without phases
pub record IsEmptyLog (log : SlotLog) : Type 0 where
  pub phases : log.phases ≡ []
  pub actors : log.actors ≡ []
  pub turns : log.turns ≡ []

-- a phase with one event more
abbrev pub one_more : Event → Phase → Phase
one_more event phase = record phase { events = phase.events ++ event ∷ [] }

-- a phase with one evaluation of a node and the update of its nets more
abbrev pub node_more : ℕ → Phase → Phase
node_more node phase = one_more (NetUpdate node) (one_more (Evaluation node) phase)

-- the state to which the events of a phase led
abbrev pub state_in : Machine → Phase → State
state_in machine phase = happened machine phase.begins phase.events

-- a slot begins, for which nothing is logged yet
abbrev pub BeginsSlot : (old new : SlotRecord) → Type 0
BeginsSlot old new =
    (machine : Machine) (first : Turn) (earlier : List NotedEvent) (log : SlotLog) → AreCausesOf machine earlier old.phase.causes → IsEmptyLog log → RecordedSlot machine first [] new log

-- a phase begins after those that ended, at this time and with these accesses held
abbrev pub BeginsPhase : (turn : Turn) (time : ℕ) (held : List ObjectAccess) (old new : SlotRecord) → Type 0
BeginsPhase turn time held old new =
    (machine : Machine) (first : Turn) (before : List Phase) (kind : Option TurnKind) (begins : State) (log : SlotLog) → RecordedSlot machine first before old log → turn ≡ turn_before first kind →
    begins.time ≡ time → held ≡ held_accesses machine begins → RecordsSlot machine first before (record { turn = kind; begins = begins; events = [] }) new log

-- a process or lane step more in the present phase, of which so much is told
abbrev pub AddsStep : (event : Event) (line : ℕ) (accesses : List ObjectAccess) (changed ended : List ℕ) (old new : SlotRecord) → Type 0
AddsStep event line accesses changed ended old new =
    (machine : Machine) (first : Turn) (before : List Phase) (phase : Phase) (log : SlotLog) → RecordsSlot machine first before phase old log →
    line ≡ writer_line machine (state_in machine phase) event None →
    accesses ≡ accesses_of machine (writer_process event None) line (state_in machine phase) event → Tells machine (state_in machine phase) event changed ended →
    RecordsSlot machine first before (one_more event phase) new log

-- an evaluation of a node and the update of its nets more, of which so much is told
abbrev pub AddsNode : (node : ℕ) (inputs : List ℕ) (changes : List Change) (accesses : List ObjectAccess) (ended : List ℕ) (old new : SlotRecord) → Type 0
AddsNode node inputs changes accesses ended old new =
    (machine : Machine) (first : Turn) (before : List Phase) (phase : Phase) (log : SlotLog) (text : FlatNode) → RecordsSlot machine first before phase old log →
    slice_get machine.design.nodes node ≡ Some text →
    text.inputs ≡ inputs → TellsUpdate machine (after machine (state_in machine phase) (Evaluation node)) node changes accesses ended → RecordsSlot machine first before (node_more node phase) new log

-- the present phase ends: it is logged, and its race is kept where none was before
abbrev pub EndsPhase : (design : FlatDesign) (old new : SlotRecord) (log logged : SlotLog) → Type 0
EndsPhase design old new log logged =
    (machine : Machine) (first : Turn) (before : List Phase) (phase : Phase) → machine.design ≡ design → RecordsSlot machine first before phase old log →
    RecordedSlot machine first (before ++ phase ∷ []) new logged
