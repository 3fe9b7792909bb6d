use Rattle.v_design.specs.PlainDesigns.{plan_of}
use Rattle.kept_samples.specs.Kept.{samples_kept}
use Rattle.top_call.specs.Outside.{counts_of}
use Rattle.top_call.proofs.OverTest.{response-given, response-faulty}
use Rattle.top_call.proofs.plan.read_observed.Goals as goal

pub returns-in-Ok-clause-gives : goal.returns-in-Ok-clause-gives
returns-in-Ok-clause-gives g c =
    let held = g.S.Shelf.held c.args.shelf.now in let text = c.in_ok-text.ensures.gives in
    let old = counts_of g.S.Shelf c.args.shelf.now in
    let new = counts_of g.S.Shelf c.read_file.new.shelf in
    response-given held c.args.name.now (plan_of c.args.plan.now) old new c.in_ok-text.text.items c.as_slice.result.now text.0 text.1 c.as_slice.ensures.value
    (samples_kept c.in-Ok.observed.items) c.in-Ok.ensures.samples

pub returns-clause-gives : goal.returns-clause-gives
returns-clause-gives g c =
    let held = g.S.Shelf.held c.args.shelf.now in let text = c.in_ok-text.ensures.gives in
    let old = counts_of g.S.Shelf c.args.shelf.now in
    let new = counts_of g.S.Shelf c.read_file.new.shelf in
    response-faulty held c.args.name.now (plan_of c.args.plan.now) old new c.in_ok-text.text.items c.as_slice.result.now text.0 text.1 c.as_slice.ensures.value
    c.in-Err.fault c.response_status.result c.in-Err.ensures.fault c.response_status.ensures
