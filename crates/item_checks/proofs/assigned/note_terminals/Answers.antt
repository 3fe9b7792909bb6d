use Rattle.std.proofs.Common.{List, map, flat_map, refl}
use Rattle.v_elab.specs.ItemFaults.{terminal_faults}
use Rattle.v_tree.specs.Views.{expression_of}
use Rattle.v_tree.specs.declared.expression.Expr.{Expr}
use Rattle.name_checks.specs.Rows.{rest-more}
use Rattle.item_checks.proofs.assigned.note_terminals.Goals as goal

pub inputs-preserved : goal.inputs-preserved
inputs-preserved c =
    rest-more (λ (x : Expr). terminal_faults c.args.scope.now (expression_of x)) (λ (xs : List Expr). flat_map (terminal_faults c.args.scope.now) (map expression_of xs)) c.args.inputs.now
    c.inputs.input-index c.input-item.result
    c.inputs.first c.note_terminal.new.first _ (λ y ys. refl) c.inputs-test.true c.input-item.is c.in_ok-note_terminal.ensures c.inputs.invariant
