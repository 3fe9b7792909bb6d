use Rattle.object_statements.proofs.parts.if_over.Goals as goal

pub expr_alone-requires : goal.expr_alone-requires
expr_alone-requires c = let r = c.requires in (r.0, r.1, r.2.1)
