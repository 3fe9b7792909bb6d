use Rattle.std.proofs.Common.{Option, Ok, ap, sym, ◌∙◌}
use Rattle.v_names.specs.Faults.{Fault, or_fault}
use Rattle.v_names.specs.SizedTrees.{SizedExpression}
use Rattle.v_width.specs.Sizes.{tree_in_context}
use Rattle.expr_sizes.proofs.answer.answer.Goals as goal

pub returns-in-Some : goal.returns-in-Some
returns-in-Some c reading h = ap (λ (f : Option Fault). or_fault (tree_in_context reading c.args.width c.args.signed) f) (sym (c.in-Some.ensures reading h))

pub returns-in-None : goal.returns-in-None
returns-in-None c reading h =
    ap (λ (f : Option Fault). or_fault (tree_in_context reading c.args.width c.args.signed) f) (sym (c.in-None.ensures reading h))
    ∙ ap (λ (t : SizedExpression). Ok t) (sym (c.tree_in_context.ensures reading h))
