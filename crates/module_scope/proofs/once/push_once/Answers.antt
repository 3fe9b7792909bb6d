use Rattle.std.proofs.Common.{Option, IfSome, is_some, ap, sym, subst, ◌∙◌}
use Rattle.module_scope.specs.Kept.{kept}
use Rattle.module_scope.proofs.Keeping.{seen-there}
use Rattle.module_scope.specs.declared.declaration.GroupBounds.{GroupBounds}
use Rattle.module_scope.specs.Groups.{IsGroup, DeclaredIn}
use Rattle.module_scope.proofs.Grouping.{adds-one, adds-where}
use Rattle.module_scope.proofs.once.push_once.Goals as goal

pub returns-in-Some-clause-seen : goal.returns-in-Some-clause-seen
returns-in-Some-clause-seen c = seen-there (kept c.args.seen.now) c.args.declaration.name.now (ap is_some (sym (c.in-Some.ensures ∙ ap (kept c.args.seen.now) c.as_bytes.ensures)))

pub returns-in_ok-push-in-None-clause-grouped : goal.returns-in_ok-push-in-None-clause-grouped
returns-in_ok-push-in-None-clause-grouped c =
    adds-where (DeclaredIn c.joined.result.declared) (DeclaredIn c.args.declaration.declared) _ _
    (λ groups h. subst (λ (b : Option GroupBounds). IfSome b (IsGroup groups)) (sym c.joined.ensures.bounds) h)
    (adds-one c.joined.result c.args.list.now.items c.push.new.self.items c.in_ok-push-in-None.ensures.items)
