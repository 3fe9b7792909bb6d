use Rattle.std.proofs.Common.{length, sym, ◌∙◌, ap}
use Rattle.std.proofs.lemmas.List.{length-map}
use Rattle.v_design.specs.PlainDesigns.{plan_of}
use Rattle.vf_base.specs.Base.{watched_bit}
use Rattle.text_lines.specs.Plain.{plain_texts}
use Rattle.response_text.proofs.Answered.{spelled-if, fits-if, refused-if}
use Rattle.response_text.proofs.read.read_response.Goals as goal

pub returns-clause-samples : goal.returns-clause-samples
returns-clause-samples c =
    spelled-if (plan_of c.args.plan.now) c.args.text.now _ _ _ c.read_lines.result
    (ap length c.as_slice.ensures ∙ sym (length-map c.args.plan.now.watched watched_bit)) c.as_slice-2.ensures (ap plain_texts c.as_slice-3.ensures.value ∙ c.in_ok-lines.ensures.lines)
    c.if-text-gt-MAX_RESPONSE_BYTES.false c.read_lines.ensures.samples

pub returns-clause-fits : goal.returns-clause-fits
returns-clause-fits c = fits-if (plan_of c.args.plan.now) c.args.text.now c.read_lines.result (returns-clause-samples c)

pub returns-clause-fault : goal.returns-clause-fault
returns-clause-fault c =
    refused-if (plan_of c.args.plan.now) c.args.text.now _ _ _ c.read_lines.result
    (ap length c.as_slice.ensures ∙ sym (length-map c.args.plan.now.watched watched_bit)) c.as_slice-2.ensures (ap plain_texts c.as_slice-3.ensures.value ∙ c.in_ok-lines.ensures.lines)
    c.if-text-gt-MAX_RESPONSE_BYTES.false c.read_lines.ensures.fault
