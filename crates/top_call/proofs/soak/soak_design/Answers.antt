use Rattle.std.proofs.Common.{refl, ◌∙◌}
use Rattle.top_call.proofs.Making.{soak-memory}
use Rattle.top_call.proofs.soak.soak_design.Goals as goal

pub returns-clause-memory : goal.returns-clause-memory
returns-clause-memory c =
    soak-memory c.args.number c.args.size c.requires c.texts_accepted.ensures c.as_slice.result.now _ c.in-Err.fault c.design_status.result
    (c.as_slice.ensures.value ∙ c.in-Ok.ensures) refl c.in-Err.ensures c.design_status.ensures
