-- The record of a slot grows with each event of its present phase.
use Rattle.std.specs.Option.{option_map}
use Rattle.vf_base.specs.Base.{reported_pair}
use Rattle.slot_record.specs.SlotLogs.{turn_before}
use Rattle.std.proofs.Common.{◌≡◌, ℕ, ◌+◌, List, [], ◌∷◌, ◌++◌, length, sym, ap, subst, ◌∙◌}
use Rattle.v_design.specs.Designs.{Machine}
use Rattle.v_design.specs.States.{State, Event, Evaluation, NetUpdate, after}
use Rattle.v_design.specs.Runs.{happened}
use Rattle.v_design.specs.PhaseLogs.{note_of, noted_events}
use Rattle.v_design.specs.Grades.{Phase}
use Rattle.causal_monitor.specs.declared.slot.Turn.{Turn}
use Rattle.causal_monitor.specs.declared.slot.SlotLog.{SlotLog}
use Rattle.machine_laws.specs.SlotLoop.{NotesGoOn}
use Rattle.slot_record.specs.declared.phase.PhaseRecord.{PhaseRecord}
use Rattle.slot_record.specs.Records.{IsRecordOf, with_node_noted}
use Rattle.slot_record.specs.declared.record.SlotRecord.{SlotRecord}
use Rattle.slot_record.specs.SlotRecords.{RecordsSlot, state_in}

happened-more : (machine : Machine) (state : State) (events : List Event) (event : Event) → happened machine state (events ++ event ∷ []) ≡ after machine (happened machine state events) event
happened-more machine state [] event = refl-state (after machine state event)
  where
    refl-state : (s : State) → s ≡ s
    refl-state s = λ i. s
happened-more machine state (first ∷ events) event = happened-more machine (after machine state first) events event

-- the present phase with other events, of which the record stands for the notes
pub with-record : (machine : Machine) (first : Turn) (before : List Phase) (phase next : Phase) (old new : SlotRecord) (log : SlotLog) → RecordsSlot machine first before phase old log →
    next.turn ≡ phase.turn → new.race ≡ old.race → new.number ≡ old.number → new.turn ≡ old.turn →
    IsRecordOf machine (length before + 1) next.begins (noted_events machine next.begins next.events) new.phase → RecordsSlot machine first before next new log
with-record machine first before phase next old new log had turn race number turned present = record {
  present = present;
  logged = had.logged;
  race_is = (λ i. option_map reported_pair (race i)) ∙ had.race_is;
  numbered = number ∙ had.numbered;
  turn_is = turned ∙ had.turn_is ∙ ap (turn_before first) (sym turn);
}

-- one event more
pub one-noted : NotesGoOn → (machine : Machine) (number : ℕ) (phase : Phase) (event : Event) (kept : PhaseRecord) →
    IsRecordOf machine number phase.begins (noted_events machine phase.begins phase.events ++ note_of machine (noted_events machine phase.begins phase.events) (state_in machine phase) event ∷ [])
    kept →
    IsRecordOf machine number phase.begins (noted_events machine phase.begins (phase.events ++ event ∷ [])) kept
one-noted goes machine number phase event kept is =
    subst (λ noted. IsRecordOf machine number phase.begins noted kept) (sym (goes machine phase.begins phase.events event)) is

-- an evaluation and an update more
pub node-noted : NotesGoOn → (machine : Machine) (number : ℕ) (phase : Phase) (node : ℕ) (kept : PhaseRecord) →
    IsRecordOf machine number phase.begins (with_node_noted machine (noted_events machine phase.begins phase.events) (state_in machine phase) node) kept →
    IsRecordOf machine number phase.begins (noted_events machine phase.begins ((phase.events ++ Evaluation node ∷ []) ++ NetUpdate node ∷ [])) kept
node-noted goes machine number phase node kept is =
    subst (λ noted. IsRecordOf machine number phase.begins noted kept)
    (sym (goes machine phase.begins (phase.events ++ Evaluation node ∷ []) (NetUpdate node)
    ∙ (λ i. goes machine phase.begins phase.events (Evaluation node) i
    ++ note_of machine (goes machine phase.begins phase.events (Evaluation node) i) (happened-more machine phase.begins phase.events (Evaluation node) i) (NetUpdate node) ∷ []))) is

-- the record of a phase that begins, by its number
pub renumbered : (machine : Machine) (one other : ℕ) (begins : State) (kept : PhaseRecord) → one ≡ other → IsRecordOf machine one begins [] kept → IsRecordOf machine other begins [] kept
renumbered machine one other begins kept same is = subst (λ n. IsRecordOf machine n begins [] kept) same is
