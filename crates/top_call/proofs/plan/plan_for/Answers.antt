use Rattle.std.proofs.Common.{sym}
use Rattle.v_design.specs.PlainDesigns.{design_of, plan_of}
use Rattle.top_call.proofs.OverTest.{plan-faulty}
use Rattle.top_call.proofs.plan.plan_for.Goals as goal

pub returns-in-Err-clause-gives : goal.returns-in-Err-clause-gives
returns-in-Err-clause-gives c = plan-faulty c.args.purpose (design_of c.args.design.now) c.args.text.now c.in-Err.fault c.plan_status.result c.in-Err.ensures.refused c.plan_status.ensures

pub returns-in-Some-clause-gives : goal.returns-in-Some-clause-gives
returns-in-Some-clause-gives c = (plan_of c.in-Ok.plan, c.in-Ok.ensures.spelled, sym c.in-Some.ensures)
