use Rattle.std.proofs.Common.{List, [], ◌∷◌, ◌++◌, ℕ, ap, ◌∙◌}
use Rattle.v_names.specs.Scopes.{ScopeName, looked_up}
use Rattle.v_names.specs.ScopeViews.{entry_of}
use Rattle.v_names.specs.Names.{Declaration, waiting_entry}
use Rattle.module_scope.specs.Declarations.{declaration_seen}
use Rattle.module_scope.proofs.Passes.{not-there-yet, named-step}
use Rattle.module_scope.proofs.settle.waiting_scope.Goals as goal

pub declare-requires : goal.declare-requires
declare-requires c =
    ap (looked_up c.declared.scope) c.as_bytes.ensures
    ∙ not-there-yet (λ (d : Declaration). waiting_entry d.declared) declaration_seen c.args.declared.now c.declared.declaration-index c.declaration-item.result c.declared.scope c.requires
    c.declared-test.true c.declaration-item.is c.declared.invariant

pub declared-preserved : goal.declared-preserved
declared-preserved c =
    named-step (λ (d : Declaration). waiting_entry d.declared) declaration_seen c.args.declared.now c.declared.declaration-index c.declaration-item.result
    (entry_of c.waiting_entry.result) c.declared.scope c.declare.new.self
    c.declared-test.true c.declaration-item.is c.waiting_entry.ensures c.declared.invariant
    (c.in_ok-declare.ensures ∙ ap (λ (n : List ℕ). let m : ScopeName = record { name = n; entry = entry_of c.waiting_entry.result } in c.declared.scope ++ m ∷ []) c.as_bytes.ensures)
