-- The update follows the cause of the evaluation before it.
use Rattle.std.proofs.Common.{◌≡◌, ◌<◌, ◌++◌, ◌∷◌, [], ◌∙◌, sym, subst}
use Rattle.std.specs.List.{All}
use Rattle.vf_base.specs.Base.{object_number, process_number, node_number}
use Rattle.v_design.specs.States.{Evaluation, after}
use Rattle.v_design.specs.PhaseLogs.{note_of}
use Rattle.event_causes.specs.CauseLaws.{evaluation-cause}
use Rattle.slot_record.specs.Records.{process_count, object_count}
use Rattle.slot_record.proofs.phase.PhaseRecord.note_node.Goals as goal

pub note_evaluation-requires : goal.note_evaluation-requires
note_evaluation-requires c =
    let is = c.requires.stands in
    record {
      machine = is.machine;
      number = is.number;
      begins = is.begins;
      noted = is.noted;
      stands = is.stands;
      is_cause = c.cause_of_node-cause.ensures.evaluation is.machine is.noted (node_number c.args.node) is.text is.stands.causes is.is_text is.has_inputs;
    }

pub note_update-requires : goal.note_update-requires
note_update-requires c =
    let is = c.requires.stands in
    let node = node_number c.args.node in
    let cause = c.cause_of_node-cause.ensures.evaluation is.machine is.noted node is.text is.stands.causes is.is_text is.has_inputs in
    let mid = c.in_ok-note_evaluation.ensures is.machine is.number is.begins is.noted is.begins is.stands cause in
    let objects : object_count c.args.self.now ≡ object_count c.note_evaluation.new.self = is.stands.causes.objects ∙ sym mid.causes.objects in
    let processes : process_count c.args.self.now ≡ process_count c.note_evaluation.new.self = is.stands.causes.processes ∙ sym mid.causes.processes in
    record {
      follows = record {
        machine = is.machine;
        number = is.number;
        begins = is.begins;
        noted = is.noted ++ note_of is.machine is.noted is.begins (Evaluation node) ∷ [];
        stands = mid;
        is_cause = cause ∙ sym (evaluation-cause is.machine is.noted is.begins node is.text is.is_text);
      };
      changed = subst (λ n. All (λ change. object_number change.object < n) c.args.changes.now) objects c.requires.changed;
      widths = c.requires.widths;
      noted = c.requires.noted;
      objects = subst (λ n. All (λ noted. object_number noted.access.object < n) c.args.ended_accesses.now) objects c.requires.objects;
      ended = subst (λ n. All (λ process. process_number process < n) c.args.ended.now) processes c.requires.ended;
    }

pub returns : goal.returns
returns c = λ machine number begins noted state text had is_text has_inputs told.
    let node = node_number c.args.node in
    let cause = c.cause_of_node-cause.ensures.evaluation machine noted node text had.causes is_text has_inputs in
    let mid = c.in_ok-note_evaluation.ensures machine number begins noted state had cause in
    c.in_ok-note_update.ensures machine number begins (noted ++ note_of machine noted state (Evaluation node) ∷ []) (after machine state (Evaluation node)) mid
    (cause ∙ sym (evaluation-cause machine noted state node text is_text)) told
