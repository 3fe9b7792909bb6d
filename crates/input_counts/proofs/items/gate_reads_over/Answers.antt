use Rattle.std.proofs.Common.{List, [], flat_map, ap, ◌∙◌}
use Rattle.v_tree.specs.Trees.{Identifier}
use Rattle.v_tree.specs.declared.expression.Expr.{Expr}
use Rattle.v_comb.specs.CombinationalForm.{each_once}
use Rattle.v_comb.specs.Occurrences.{names_of_expr}
use Rattle.v_elab.specs.ReadCounts.{reads_over}
use Rattle.input_counts.proofs.OverLaws.{inputs-named}
use Rattle.input_counts.proofs.items.gate_reads_over.Goals as goal

pub returns : goal.returns
returns c =
    c.in_ok-over.ensures ∙ ap (λ (es : List Expr). reads_over c.args.scope.now (each_once [] (flat_map names_of_expr es))) c.as_slice.ensures
    ∙ ap (λ (ns : List Identifier). reads_over c.args.scope.now (each_once [] ns)) (inputs-named c.args.gate.now.inputs)
