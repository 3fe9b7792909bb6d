-- By what is claimed.
use Rattle.std.proofs.Common.{refl, ap}
use Rattle.v_design.specs.Grades.{Detected, Possible, Undetected}
use Rattle.vf_base.specs.declared.finding.End.TheVariants as ends
use Rattle.cert_text.specs.Views.{claim_said}
use Rattle.vf_audit.specs.Cases.{case_design, case_plan, case_fault}
use Rattle.vf_audit.proofs.Shown.{judged-ends, raced-ends}
use Rattle.vf_audit.proofs.ends.end_of.Goals as goal

pub returns-in-Detected : goal.returns-in-Detected
returns-in-Detected c = λ good faulty one other.
    let case = c.args.case.now in
    judged-ends (case_design case) (case_plan case) (case_fault case) case.claim (Detected c.in-Detected.time) good faulty c.args.good.now c.args.faulty.now (ends.Detected c.in-Detected.time)
    c.judged_end.result (ap claim_said c.in-Detected.is) refl (c.judged_end.ensures (Detected c.in-Detected.time) refl) one other

pub returns-in-Possible : goal.returns-in-Possible
returns-in-Possible c = λ good faulty one other.
    let case = c.args.case.now in
    judged-ends (case_design case) (case_plan case) (case_fault case) case.claim (Possible c.in-Possible.time) good faulty c.args.good.now c.args.faulty.now (ends.Possible c.in-Possible.time)
    c.judged_end-in-Possible.result (ap claim_said c.in-Possible.is) refl (c.judged_end-in-Possible.ensures (Possible c.in-Possible.time) refl) one other

pub returns-in-Undetected : goal.returns-in-Undetected
returns-in-Undetected c = λ good faulty one other.
    let case = c.args.case.now in
    judged-ends (case_design case) (case_plan case) (case_fault case) case.claim Undetected good faulty c.args.good.now c.args.faulty.now ends.Undetected
    c.judged_end-in-Undetected.result (ap claim_said c.in-Undetected.is) refl (c.judged_end-in-Undetected.ensures Undetected refl) one other

pub returns-in-Race : goal.returns-in-Race
returns-in-Race c = λ good faulty one other.
    let case = c.args.case.now in
    raced-ends (case_design case) (case_plan case) (case_fault case) case.claim c.in-Race.race good faulty c.args.good.now c.args.faulty.now c.raced_end.result c.in-Race.is
    c.raced_end.ensures one other
