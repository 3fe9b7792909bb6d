use Rattle.object_statements.proofs.parts.for_over.Goals as goal

pub assigned_over-first-requires : goal.assigned_over-first-requires
assigned_over-first-requires c = let r = c.requires in (r.0, r.1, r.2.0)

pub expr_alone-condition-requires : goal.expr_alone-condition-requires
expr_alone-condition-requires c = let r = c.requires in (r.0, r.1, r.2.1.1)

pub assigned_over-next-requires : goal.assigned_over-next-requires
assigned_over-next-requires c = let r = c.requires in (r.0, r.1, r.2.2)
