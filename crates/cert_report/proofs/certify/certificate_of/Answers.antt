-- The line holds, and the text is read back.
use Rattle.std.proofs.Common.{subst}
use Rattle.v_design.specs.Plain.{fault_of}
use Rattle.v_design.specs.PlainDesigns.{design_of, plan_of}
use Rattle.v_design.specs.RulesHold.{rules_hold, plan_rules_hold}
use Rattle.vf_certify.specs.Answers.{IsCertified, IsRead}
use Rattle.cert_report.proofs.Holding.{certificate-holds}
use Rattle.cert_report.proofs.certify.certificate_of.Goals as goal

pub returns-in-Ok-Cert-clause-every_order : goal.returns-in-Ok-Cert-clause-every_order
returns-in-Ok-Cert-clause-every_order g c =
    let design = design_of c.args.design.now in let plan = plan_of c.args.plan.now in let fault = fault_of c.args.fault in
    let certified = subst (IsCertified design plan fault) c.in-Ok-Cert.field-0-is c.in-Ok-Cert.ensures.certified in
    certificate-holds c.grades.ensures design plan c.args.place fault certified.0 c.in-Ok-Cert.text.items (rules_hold design c.args.design.now.rules)
    (plan_rules_hold plan c.args.plan.now.rules) c.requires.plan c.requires.is_listed certified.1 certified.2
    (subst (IsRead design plan fault) c.in-Ok-Cert.field-0-is c.in-Ok-Cert.ensures.read)
