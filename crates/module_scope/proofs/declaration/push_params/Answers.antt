use Rattle.module_scope.proofs.declaration.push_params.Goals as goal

pub returns-clause-grouped : goal.returns-clause-grouped
returns-clause-grouped c = c.in_ok-push_each_param.ensures.grouped.adds _ c.in_ok-bounds.ensures.group (c.in_ok-bounds.ensures.grouped _ c.requires)
