-- By the line of the claim.
use Rattle.text_lines.specs.Plain.{plain_texts}
use Rattle.v_design.specs.PlainDesigns.{design_of, plan_of}
use Rattle.v_design.specs.RulesHold.{rules_hold, plan_rules_hold}
use Rattle.vf_audit.proofs.Claims.{claims-some}
use Rattle.vf_audit.proofs.following.audit_claim.Goals as goal

pub returns : goal.returns
returns g c =
    let design = design_of c.args.design.now in
    let plan = plan_of c.args.plan.now in
    claims-some design plan c.args.line.now (plain_texts c.args.rest.now) c.what_yes_means.ensures (rules_hold design c.args.design.now.rules) (plan_rules_hold plan c.args.plan.now.rules)
    c.in_ok-fault.field-0 c.in-Some.fault c.in-Some.claim c.in_ok-audited.audited c.in_ok-fault.ensures c.in-Some.is c.in_ok-audited.ensures
