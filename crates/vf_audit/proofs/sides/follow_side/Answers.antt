-- By what is claimed.
use Rattle.std.proofs.Common.{IfOk, refl, sym, ap, subst}
use Rattle.v_design.specs.Grades.{Detected, Possible, Undetected}
use Rattle.text_lines.specs.Plain.{plain_texts}
use Rattle.cert_laws.specs.Valid.{lines_said}
use Rattle.cert_text.specs.Views.{claim_said}
use Rattle.vf_audit.specs.Cases.{case_design, case_plan, case_fault}
use Rattle.vf_audit.specs.Sides.{SectionFor}
use Rattle.vf_audit.proofs.Sections.{verdict-section}
use Rattle.vf_audit.proofs.sides.follow_side.Goals as goal

pub returns-in-Race : goal.returns-in-Race
returns-in-Race g c =
    let case = c.args.case.now in
    subst (λ claim. IfOk c.follow_beside.result (SectionFor (case_design case) (case_plan case) (case_fault case) (claim_said claim) c.args.side (lines_said (plain_texts c.args.lines.now))))
    (sym c.in-Race.is) c.follow_beside.ensures

pub returns-in-Detected : goal.returns-in-Detected
returns-in-Detected g c =
    let case = c.args.case.now in
    verdict-section (case_design case) (case_plan case) (case_fault case) (claim_said case.claim) (Detected c.in-Detected.time) c.args.side c.in-Detected.time
    (lines_said (plain_texts c.args.lines.now)) c.follow_judged.result (ap claim_said c.in-Detected.is) refl c.follow_judged.ensures

pub returns-in-Possible : goal.returns-in-Possible
returns-in-Possible g c =
    let case = c.args.case.now in
    verdict-section (case_design case) (case_plan case) (case_fault case) (claim_said case.claim) (Possible c.in-Possible.field-0) c.args.side (case_plan case).end
    (lines_said (plain_texts c.args.lines.now)) c.follow_judged-in-Possible.result (ap claim_said c.in-Possible.is) refl c.follow_judged-in-Possible.ensures

pub returns-in-Undetected : goal.returns-in-Undetected
returns-in-Undetected g c =
    let case = c.args.case.now in
    verdict-section (case_design case) (case_plan case) (case_fault case) (claim_said case.claim) Undetected c.args.side (case_plan case).end
    (lines_said (plain_texts c.args.lines.now)) c.follow_judged-in-Undetected.result (ap claim_said c.in-Undetected.is) refl c.follow_judged-in-Undetected.ensures
