use Rattle.std.proofs.Common.{◌++◌, List, map, flat_map, refl, ap, sym}
use Rattle.v_elab.specs.ItemFaults.{output_faults, terminal_faults, gate_faults}
use Rattle.v_tree.specs.Views.{expression_of, target_of, gate_of}
use Rattle.v_tree.specs.declared.expression.Expr.{Expr}
use Rattle.v_tree.specs.declared.item.Gate.{Gate}
use Rattle.name_checks.specs.Noted.{noted-two}
use Rattle.name_checks.specs.Rows.{rest-more}
use Rattle.item_checks.proofs.assigned.note_gates.Goals as goal

pub gates-preserved : goal.gates-preserved
gates-preserved c =
    rest-more (λ (x : Gate). gate_faults c.args.scope.now (gate_of x)) (λ (xs : List Gate). flat_map (gate_faults c.args.scope.now) (map gate_of xs)) c.args.gates.now c.gates.gate-index
    c.gate-item.result
    c.gates.first c.note_terminals.new.first _ (λ y ys. refl) c.gates-test.true c.gate-item.is
    (noted-two c.gates.first _ _ (output_faults c.args.scope.now (target_of c.gate-item.result.output)) (flat_map (terminal_faults c.args.scope.now) (map expression_of c.as_slice.result.now))
    (gate_faults c.args.scope.now (gate_of c.gate-item.result)) c.in_ok-note_output.ensures c.in_ok-note_terminals.ensures
    (ap (λ (es : List Expr). output_faults c.args.scope.now (target_of c.gate-item.result.output) ++ flat_map (terminal_faults c.args.scope.now) (map expression_of es)) (sym c.as_slice.ensures)))
    c.gates.invariant
