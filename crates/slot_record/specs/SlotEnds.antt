-- The end of a slot, as it is recorded (slots by IEEE 1364-2001, clause 5).
use Rattle.std.proofs.Common.{◌∙◌, sym, ap, subst}
use Rattle.std.specs.Prelude.{◌≡◌, Bool, true, false}
use Rattle.std.specs.Option.{option_map}
use Rattle.vf_base.specs.Base.{reported_pair}
use Rattle.v_design.specs.Designs.{Machine}
use Rattle.v_design.specs.Grades.{SlotOutcome, Hyper, phases, race_or_fine, slot_outcome}
use Rattle.causal_monitor.specs.declared.slot.Turn.{Turn}
use Rattle.causal_monitor.specs.declared.slot.SlotLog.{SlotLog}
use Rattle.machine_laws.specs.SlotLoop.{Moment, EndsAt, slot_from, phases_so_far}
use Rattle.slot_record.specs.SlotLogs.{IsSlotLog}
use Rattle.slot_record.specs.declared.record.SlotRecord.{SlotRecord}
use Rattle.slot_record.specs.SlotRecords.{RecordedSlot}

-- the outcome of a slot that ended, by the race that is kept
abbrev pub outcome_kept : Bool → SlotRecord → SlotOutcome
outcome_kept true kept = Hyper
outcome_kept false kept = race_or_fine (option_map reported_pair kept.race)

-- where a slot ends at a moment and all phases so far are recorded, the race that is kept tells the slot's outcome
pub outcome-recorded : (machine : Machine) (hyper : Bool) (at : Moment) (first : Turn) (kept : SlotRecord) (log : SlotLog) → EndsAt machine hyper at →
    RecordedSlot machine first (phases_so_far at) kept log →
    slot_outcome machine (slot_from machine at.begins) ≡ outcome_kept hyper kept
outcome-recorded machine true at first kept log ends recorded = ends.outcome_is
outcome-recorded machine false at first kept log ends recorded = ends.outcome_is ∙ ap race_or_fine (sym recorded.race_is)

-- and the log stands for the slot
pub log-recorded : (machine : Machine) (hyper : Bool) (at : Moment) (first : Turn) (kept : SlotRecord) (log : SlotLog) → EndsAt machine hyper at →
    RecordedSlot machine first (phases_so_far at) kept log →
    IsSlotLog machine first (phases machine (slot_from machine at.begins)) log
log-recorded machine hyper at first kept log ends recorded = subst (λ ps. IsSlotLog machine first ps log) (sym ends.phases_are) recorded.logged
