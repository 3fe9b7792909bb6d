-- The event follows its cause, and what is told of it is what the record gains.
use Rattle.std.proofs.Common.{refl, map}
use Rattle.vf_base.specs.Base.{process_number}
use Rattle.v_design.specs.States.{LaneStep}
use Rattle.causal_monitor.specs.declared.slot.Actor.TheVariants.{Lane as Acts}
use Rattle.causal_monitor.specs.Notes.{noted_access}
use Rattle.slot_record.proofs.RecordLaws.{events-logged, cause-noted, names-objects, recorded}
use Rattle.slot_record.proofs.phase.PhaseRecord.note_lane.Goals as goal

pub note-requires-clause-earlier : goal.note-requires-clause-earlier
note-requires-clause-earlier c =
    let is = c.requires.stands in
    cause-noted is.machine is.noted (LaneStep (process_number c.args.process)) c.cause_of_lane-cause.result _ (c.cause_of_lane-cause.ensures is.machine is.noted is.stands.causes)
    (events-logged is.machine is.number is.begins is.noted c.args.self.now is.stands)

pub returns : goal.returns
returns c = λ machine number begins noted state had line accesses tells.
    recorded machine number begins noted state (LaneStep (process_number c.args.process)) c.cause_of_lane-cause.result (map noted_access c.args.accesses.now)
    (Acts c.args.process) c.args.self.now _ had
    (record {
      grown = c.in_ok-note.ensures.ok;
      acts = c.in_ok-push.ensures.items;
      causes = c.in_ok-note_lane.ensures.notes machine noted state had.causes tells (record { process = refl; line = line });
      is_event = refl;
      is_cause = c.cause_of_lane-cause.ensures machine noted had.causes;
      are_accesses = accesses;
      named = names-objects machine noted c.args.self.now.causes c.args.accesses.now had.causes c.requires.objects;
    })
