-- An evaluation follows its cause and has no accesses.
use Rattle.std.proofs.Common.{[], refl}
use Rattle.vf_base.specs.Base.{node_number}
use Rattle.v_design.specs.States.{Evaluation}
use Rattle.causal_monitor.specs.declared.slot.Actor.TheVariants.{Eval}
use Rattle.slot_record.proofs.RecordLaws.{events-logged, writers-kept, cause-noted, recorded}
use Rattle.slot_record.proofs.phase.PhaseRecord.note_evaluation.Goals as goal

pub note-requires-clause-earlier : goal.note-requires-clause-earlier
note-requires-clause-earlier c =
    let is = c.requires in
    cause-noted is.machine is.noted (Evaluation (node_number c.args.node)) c.args.cause _ is.is_cause (events-logged is.machine is.number is.begins is.noted c.args.self.now is.stands)

pub note_evaluation-requires : goal.note_evaluation-requires
note_evaluation-requires c =
    let is = c.requires in
    cause-noted is.machine is.noted (Evaluation (node_number c.args.node)) c.args.cause _ is.is_cause (writers-kept is.machine is.noted c.args.self.now.causes is.stands.causes)

pub returns : goal.returns
returns c = λ machine number begins noted state had is.
    recorded machine number begins noted state (Evaluation (node_number c.args.node)) c.args.cause [] (Eval c.args.node) c.args.self.now _ had
    (record {
      grown = c.in_ok-note.ensures.ok;
      acts = c.in_ok-push.ensures.items;
      causes = c.in_ok-note_evaluation.ensures.notes machine noted state (node_number c.args.node) had.causes is;
      is_event = refl;
      is_cause = is;
      are_accesses = refl;
      named = tt;
    })
