use Rattle.v_design.specs.PlainDesigns.{design_of}
use Rattle.top_call.specs.Outside.{counts_of}
use Rattle.top_call.proofs.OverTest.{plan-given}
use Rattle.top_call.proofs.plan.read_test_plan.Goals as goal

pub returns-clause-gives : goal.returns-clause-gives
returns-clause-gives g c =
    let held = g.S.Shelf.held c.args.shelf.now in let text = c.in_ok-text.ensures.gives in
    let old = counts_of g.S.Shelf c.args.shelf.now in
    let new = counts_of g.S.Shelf c.read_file.new.shelf in
    plan-given held c.args.name.now c.args.purpose (design_of c.args.design.now) old new c.in_ok-text.text.items c.as_slice.result.now text.0 text.1 c.as_slice.ensures.value
    c.plan_for.result c.plan_for.ensures.gives
