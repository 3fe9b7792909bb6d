use Rattle.std.proofs.Common.{List, [], ◌∷◌, ◌++◌, ℕ, option_map, Option, ap, sym, ◌∙◌}
use Rattle.v_names.specs.Scopes.{SignedValue, ScopeName, looked_up}
use Rattle.v_names.specs.ScopeViews.{entry_of}
use Rattle.v_names.specs.SizeViews.{signed_value}
use Rattle.v_names.specs.Names.{Declaration, meaning_of}
use Rattle.module_scope.specs.Kept.{kept}
use Rattle.module_scope.specs.Givens.{given_seen}
use Rattle.module_scope.specs.Meanings.{meaning_with, meaning-is}
use Rattle.module_scope.specs.Declarations.{declaration_seen, declared_seen}
use Rattle.module_scope.proofs.Passes.{not-there-yet, named-step, given-kept}
use Rattle.module_scope.proofs.Grouping.{grouped-at}
use Rattle.module_scope.proofs.settle.meanings.Goals as goal

pub declare-requires : goal.declare-requires
declare-requires c =
    ap (looked_up c.declared.scope) c.as_bytes-in-declared.ensures
    ∙ not-there-yet (λ (d : Declaration). meaning_of c.args.settled.now (given_seen c.args.given.now) d.name d.declared) declaration_seen c.args.declared.now c.declared.declaration-index
    c.declaration-item.result c.declared.scope c.requires.apart
    c.declared-test.true c.declaration-item.is c.declared.invariant.scope

pub declared-preserved : goal.declared-preserved
declared-preserved c = record {
  scope =
      let given = given_seen c.args.given.now in
      named-step (λ (d : Declaration). meaning_of c.args.settled.now (given_seen c.args.given.now) d.name d.declared) declaration_seen c.args.declared.now c.declared.declaration-index
      c.declaration-item.result
      (entry_of c.in_ok-entry.entry) c.declared.scope c.declare.new.self c.declared-test.true c.declaration-item.is
      (c.in_ok-entry.ensures.meaning
      ∙ ap (λ (g : Option SignedValue). meaning_with c.args.settled.now g (declared_seen c.declaration-item.result.declared))
      (ap (option_map signed_value) (c.get-value.ensures ∙ ap (kept c.args.given.now) c.as_bytes.ensures) ∙ given-kept c.args.given.now c.declaration-item.result.name.now)
      ∙ sym (meaning-is c.args.settled.now (given_seen c.args.given.now) c.declaration-item.result.name.now (declared_seen c.declaration-item.result.declared)))
      c.declared.invariant.scope
      (c.in_ok-declare.ensures ∙ ap (λ (n : List ℕ). let m : ScopeName = record { name = n; entry = entry_of c.in_ok-entry.entry } in c.declared.scope ++ m ∷ []) c.as_bytes-in-declared.ensures);
  ranges = c.in_ok-entry.ensures.ranges;
}

pub meaning_of-requires-clause-grouped : goal.meaning_of-requires-clause-grouped
meaning_of-requires-clause-grouped c =
    grouped-at c.args.groups.now c.args.declared.now c.declared.declaration-index c.declaration-item.result c.requires.grouped c.declared-test.true c.declaration-item.is
