-- The line `end`, and none behind it.
use Rattle.std.proofs.Common.{◌≡◌, ◌+◌, ◌∙◌, length, true, false, refl, sym, rules}
use Rattle.std.proofs.lemmas.Bool.{eq-eqb}
use Rattle.text_lines.specs.Plain.{plain_texts}
use Rattle.cert_laws.specs.Valid.{lines_said}
use Rattle.vf_audit.specs.Cases.{case_design, case_plan, case_fault, case_claim}
use Rattle.vf_audit.proofs.Staging.{length-said, faulty-other, faulty-stays, faulty-falls, faulty-stands, shown-by, over-more, ends-so}
use Rattle.vf_audit.proofs.stages.follow_end.Goals as goal

pub returns-in_default : goal.returns-in_default
returns-in_default c = λ good_run run none shows leaves.
    let case = c.args.case.now in
    faulty-other (case_design case) (case_plan case) (case_fault case) (case_claim case) c.args.number good_run run (lines_said (plain_texts c.args.lines.now)) none c.in_default.ensures.said

pub returns-in_default-faulty : goal.returns-in_default-faulty
returns-in_default-faulty c = λ good_run run none shows leaves.
    let case = c.args.case.now in
    faulty-stays (case_design case) (case_plan case) (case_fault case) (case_claim case) c.args.number good_run run (lines_said (plain_texts c.args.lines.now))
    (lines_said (plain_texts c.in-Some.rest.now)) c.args.faulty.now c.in-Some.ensures.said leaves c.in_default-faulty.is

pub returns-in_default-end_of : goal.returns-in_default-end_of
returns-in_default-end_of c = λ good_run run none shows leaves.
    let case = c.args.case.now in
    let shown = c.in-Some-faulty.faulty in
    faulty-falls (case_design case) (case_plan case) (case_fault case) (case_claim case) c.args.number good_run run (lines_said (plain_texts c.args.lines.now))
    (lines_said (plain_texts c.in-Some.rest.now)) c.args.faulty.now shown c.end_of.result c.in-Some.ensures.said leaves c.in-Some-faulty.is
    (c.end_of.ensures good_run run shows (shown-by (case_design case) (case_plan case) (case_fault case) (case_claim case) run c.args.faulty.now shown leaves c.in-Some-faulty.is))
    c.in_default-end_of.is

pub returns-then-not-is_empty : goal.returns-then-not-is_empty
returns-then-not-is_empty c = λ good_run run none shows leaves.
    let case = c.args.case.now in
    let shown = c.in-Some-faulty.faulty in
    let rest = lines_said (plain_texts c.in-Some.rest.now) in
    faulty-stands (case_design case) (case_plan case) (case_fault case) (case_claim case) c.args.number good_run run (lines_said (plain_texts c.args.lines.now))
    rest c.args.faulty.now shown c.end_of.result c.in-Some-end_of.end c.in-Some.ensures.said leaves c.in-Some-faulty.is
    (c.end_of.ensures good_run run shows (shown-by (case_design case) (case_plan case) (case_fault case) (case_claim case) run c.args.faulty.now shown leaves c.in-Some-faulty.is)) c.in-Some-end_of.is
    ∙ over-more (case_design case) (case_plan case) (case_fault case) (case_claim case) (c.args.number + 1) rest
    (λ e. let z : true ≡ false = sym (eq-eqb (length c.in-Some.rest.now) 0 (sym (length-said c.in-Some.rest.now) ∙ e)) ∙ sym c.is_empty.ensures ∙ c.if-not-is_empty.true in cc)

pub returns : goal.returns
returns c = λ good_run run none shows leaves.
    let case = c.args.case.now in
    let shown = c.in-Some-faulty.faulty in
    let rest = lines_said (plain_texts c.in-Some.rest.now) in
    ends-so (case_design case) (case_plan case) (case_fault case) (case_claim case) c.args.number good_run run (lines_said (plain_texts c.args.lines.now))
    rest c.args.faulty.now shown c.end_of.result c.in-Some-end_of.end case.fault c.in-Some.ensures.said leaves c.in-Some-faulty.is
    (c.end_of.ensures good_run run shows (shown-by (case_design case) (case_plan case) (case_fault case) (case_claim case) run c.args.faulty.now shown leaves c.in-Some-faulty.is)) c.in-Some-end_of.is
    (length-said c.in-Some.rest.now ∙ search rules) refl
