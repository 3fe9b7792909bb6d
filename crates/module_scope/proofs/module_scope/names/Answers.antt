use Rattle.std.proofs.Common.{◌+◌, List, [], None, Some, map, option_map, ap, sym, subst, ◌∙◌}
use Rattle.v_tree.specs.Views.{module_of}
use Rattle.v_names.specs.Faults.{first_fault}
use Rattle.v_names.specs.FaultViews.{fault_of}
use Rattle.v_names.specs.Names.{first_declarations, scope_after, parameter_count}
use Rattle.module_scope.specs.declared.declaration.Declaration.{Declaration}
use Rattle.module_scope.specs.Declarations.{declarations_seen}
use Rattle.module_scope.specs.Givens.{given_parameter, given_seen}
use Rattle.module_scope.specs.Settled.{AreApart}
use Rattle.module_scope.proofs.Apart.{first-apart}
use Rattle.module_scope.proofs.Ends.{faults_by, names-are}
use Rattle.module_scope.proofs.module_scope.names.Goals as goal

pub scope_of-requires-clause-apart : goal.scope_of-requires-clause-apart
scope_of-requires-clause-apart c =
    subst AreApart (sym (ap declarations_seen c.deref-2.ensures.value ∙ c.in_ok-declared.ensures.once)) (first-apart (declarations_seen c.deref.result.now) [] (declarations_seen c.deref.result.now))

pub scope_of-requires-clause-grouped : goal.scope_of-requires-clause-grouped
scope_of-requires-clause-grouped c =
    rw (c.deref-2.ensures.value, c.deref-3.ensures.value) (c.in_ok-declared.ensures.grouped c.in_ok-declarations.declarations.groups.items
    (rw c.deref.ensures.value c.in_ok-declarations.ensures.grouped))

pub module_fault-requires : goal.module_fault-requires
module_fault-requires c = rw (c.deref-4.ensures.value, c.deref-5.ensures.value) c.in_ok-declarations.ensures.grouped

pub returns-in-None : goal.returns-in-None
returns-in-None c =
    names-are (module_of c.args.«module».now) (map given_parameter c.args.given.now) (given_seen c.in_ok-values.values) (declarations_seen c.in_ok-declared.declared.items)
    (declarations_seen c.in_ok-declarations.declarations.list.items) c.in_ok-scope.scope None
    c.in_ok-declarations.ensures.list
    (c.in_ok-declared.ensures.once ∙ ap (λ (ds : List Declaration). first_declarations (declarations_seen ds) [] (declarations_seen ds)) c.deref.ensures.value)
    c.in_ok-values.ensures
    (c.in_ok-scope.ensures ∙ ap (λ (ds : List Declaration). scope_after (parameter_count (declarations_seen ds) + 1) (given_seen c.in_ok-values.values) (declarations_seen ds)) c.deref-2.ensures.value)
    (sym (ap (option_map fault_of) c.in-None.is) ∙ c.in_ok-found.ensures ∙ ap (λ (ds : List Declaration).
    first_fault (faults_by c.in_ok-scope.scope (module_of c.args.«module».now) (declarations_seen ds))) c.deref-4.ensures.value)

pub returns : goal.returns
returns c =
    names-are (module_of c.args.«module».now) (map given_parameter c.args.given.now) (given_seen c.in_ok-values.values) (declarations_seen c.in_ok-declared.declared.items)
    (declarations_seen c.in_ok-declarations.declarations.list.items) c.in_ok-scope.scope (Some (fault_of c.in-Some.found))
    c.in_ok-declarations.ensures.list
    (c.in_ok-declared.ensures.once ∙ ap (λ (ds : List Declaration). first_declarations (declarations_seen ds) [] (declarations_seen ds)) c.deref.ensures.value)
    c.in_ok-values.ensures
    (c.in_ok-scope.ensures ∙ ap (λ (ds : List Declaration). scope_after (parameter_count (declarations_seen ds) + 1) (given_seen c.in_ok-values.values) (declarations_seen ds)) c.deref-2.ensures.value)
    (sym (ap (option_map fault_of) c.in-Some.is) ∙ c.in_ok-found.ensures ∙ ap (λ (ds : List Declaration).
    first_fault (faults_by c.in_ok-scope.scope (module_of c.args.«module».now) (declarations_seen ds))) c.deref-4.ensures.value)
