use Rattle.std.proofs.Common.{ℕ, List, cond, Some, ap, ◌∙◌}
use Rattle.v_tree.specs.Trees.{same_name}
use Rattle.module_scope.specs.Kept.{kept}
use Rattle.module_scope.specs.Declarations.{declaration_seen}
use Rattle.module_scope.proofs.ByName.{found-step, found-end}
use Rattle.module_scope.proofs.by_name.declarations_by_name.Goals as goal

pub declared-preserved : goal.declared-preserved
declared-preserved c =
    found-step declaration_seen c.args.declared.now c.declared.declaration-index c.declaration-item.result (kept c.declared.found)
    (kept c.put.new.self) c.requires c.declared-test.true c.declaration-item.is
    (λ (other : List ℕ). c.in_ok-put.ensures other ∙ ap (λ (n : List ℕ). cond (same_name n other) (Some c.declaration-item.result) (kept c.declared.found other)) c.as_bytes.ensures)
    c.declared.invariant

pub returns : goal.returns
returns c = λ (name : List ℕ). found-end declaration_seen c.args.declared.now c.declared.declaration-index (kept c.declared.found) name c.declared-test.false c.declared.invariant
