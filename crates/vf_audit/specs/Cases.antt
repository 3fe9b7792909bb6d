-- What a certificate is followed for (nothing of the language).
use Rattle.std.specs.Prelude.{◌≡◌}
use Rattle.v_design.specs.Designs.{FlatDesign, TestPlan, StuckAt}
use Rattle.v_design.specs.Plain.{fault_of}
use Rattle.v_design.specs.PlainDesigns.{design_of, plan_of}
use Rattle.v_design.specs.WellFormed.{IsPlanOf}
use Rattle.cert_laws.specs.Claims.{Claim}
use Rattle.cert_text.specs.Views.{claim_said}
use Rattle.vf_audit.specs.declared.case.Case.{Case}

-- the design and the plan
abbrev pub case_design : Case → FlatDesign
case_design case = design_of case.design.now

abbrev pub case_plan : Case → TestPlan
case_plan case = plan_of case.plan.now

-- the fault and the claim
abbrev pub case_fault : Case → StuckAt
case_fault case = fault_of case.fault

abbrev pub case_claim : Case → Claim
case_claim case = claim_said case.claim

-- the graph is that of the design, and the plan is one over it
pub record IsCase (case : Case) : Type 0 where
  pub graph : case.graph.now.design.now ≡ case.design.now
  pub plan : IsPlanOf (case_design case) (case_plan case)
