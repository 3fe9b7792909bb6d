use Rattle.std.proofs.Common.{◌+◌, List, [], map, ap, sym, subst, ◌∙◌}
use Rattle.v_tree.specs.Views.{module_of}
use Rattle.v_names.specs.Names.{first_declarations, scope_after, parameter_count}
use Rattle.module_scope.specs.declared.declaration.Declaration.{Declaration}
use Rattle.module_scope.specs.Declarations.{declarations_seen}
use Rattle.module_scope.specs.Givens.{given_parameter, given_seen}
use Rattle.module_scope.specs.Settled.{AreApart}
use Rattle.module_scope.proofs.Apart.{first-apart}
use Rattle.module_scope.proofs.Ends.{scope-is}
use Rattle.module_scope.proofs.by_name.scope_of_module.Goals as goal

pub scope_of-requires-clause-apart : goal.scope_of-requires-clause-apart
scope_of-requires-clause-apart c =
    subst AreApart (sym (ap declarations_seen c.deref-2.ensures.value ∙ c.in_ok-declared.ensures.once)) (first-apart (declarations_seen c.deref.result.now) [] (declarations_seen c.deref.result.now))

pub scope_of-requires-clause-grouped : goal.scope_of-requires-clause-grouped
scope_of-requires-clause-grouped c =
    rw (c.deref-2.ensures.value, c.deref-3.ensures.value) (c.in_ok-declared.ensures.grouped c.in_ok-all.all.groups.items (rw c.deref.ensures.value c.in_ok-all.ensures.grouped))

pub returns : goal.returns
returns c =
    scope-is (module_of c.args.«module».now) (map given_parameter c.args.given.now) (given_seen c.in_ok-values.values) (declarations_seen c.in_ok-declared.declared.items)
    (declarations_seen c.in_ok-all.all.list.items) c.in_ok-scope.scope c.in_ok-all.ensures.list
    (c.in_ok-declared.ensures.once ∙ ap (λ (ds : List Declaration). first_declarations (declarations_seen ds) [] (declarations_seen ds)) c.deref.ensures.value)
    c.in_ok-values.ensures
    (c.in_ok-scope.ensures ∙ ap (λ (ds : List Declaration). scope_after (parameter_count (declarations_seen ds) + 1) (given_seen c.in_ok-values.values) (declarations_seen ds)) c.deref-2.ensures.value)
