use Rattle.object_statements.proofs.parts.assigned_over.Goals as goal

pub targets_over-requires : goal.targets_over-requires
targets_over-requires c = let r = c.requires in (r.0, r.1, r.2.0)

pub expr_assigned-requires : goal.expr_assigned-requires
expr_assigned-requires c = let r = c.requires in (r.0, r.1, r.2.1.1)
