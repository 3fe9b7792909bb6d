use Rattle.std.proofs.Common.{List, sym, subst}
use Rattle.name_checks.specs.declared.bounds.Bounds.{Bounds}
use Rattle.module_scope.specs.Groups.{AreGrouped}
use Rattle.module_scope.proofs.Grouping.{grouped-more}
use Rattle.module_scope.proofs.declaration.new_group.Goals as goal

pub returns-clause-grouped : goal.returns-clause-grouped
returns-clause-grouped c = λ list h.
    subst (λ (groups : List Bounds). AreGrouped groups list) (sym c.in_ok-push.ensures.items) (grouped-more c.args.groups.now.items c.args.bounds list h)
