use Rattle.std.proofs.Common.{◌≡◌, ◌++◌, map, drop}
use Rattle.v_tree.specs.Views.{expression_of}
use Rattle.v_tree.specs.declared.expression.Expr.{Expr}
use Rattle.v_names.specs.Readings.{tree_in, reading_of}
use Rattle.v_width.specs.SizedViews.{sized_of}
use Rattle.elab_items.proofs.gates.terminals_of.Given as goal

abbrev pub invariant-inputs : goal.invariant-inputs
invariant-inputs l =
    map sized_of l.terminals.items ++ map (λ (e : Expr). tree_in 1 (reading_of l.scope (expression_of e))) (drop l.input-index l.inputs) ≡ map
    (λ (e : Expr). tree_in 1 (reading_of l.scope (expression_of e))) l.inputs
