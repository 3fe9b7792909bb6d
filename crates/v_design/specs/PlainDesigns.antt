-- The plain data that a design, a plan and a view of a design stand for (nothing of the language).
use Rattle.v_design.specs.Plain.{flat_design, test_plan}
use Rattle.v_design.specs.Designs.{FlatDesign, TestPlan}
use Rattle.v_design.specs.declared.plan.Design.{Design}
use Rattle.v_design.specs.declared.plan.Plan.{Plan}

-- a design
abbrev pub design_of : Design → FlatDesign
design_of d = flat_design d.objects d.joined d.nodes d.processes

-- a plan
abbrev pub plan_of : Plan → TestPlan
plan_of p = test_plan p.end p.strobes p.watched p.faults
