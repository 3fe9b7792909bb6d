use Rattle.std.proofs.Common.{◌++◌, sym, subst, ◌∙◌, ap, length}
use Rattle.v_design.specs.Plain.{expression_of}
use Rattle.v_design.specs.PlainLemmas.{items_of}
use Rattle.v_design.specs.Sized.{AreSizedItems}
use Rattle.v_design.specs.Reads.{named_in, named_by, named_by_items}
use Rattle.v_design.specs.Expressions.{sign_of}
use Rattle.v_design.specs.Assignments.{value_at}
use Rattle.expr_eval.specs.WidthLaws.{AllHold-left, AllHold-right, length-value_of}
use Rattle.node_eval.specs.Overlaid.{overlaid}
use Rattle.node_eval.proofs.run.choose.Goals as goal

pub eval_over-bits-requires-clause-there : goal.eval_over-bits-requires-clause-there
eval_over-bits-requires-clause-there g c =
    AllHold-left _ (named_in (expression_of c.args.value.now)) (named_by_items (items_of c.args.items.now) ++ named_by c.requires.may.1) c.requires.may.2.there

pub find_item-requires-clause-sized : goal.find_item-requires-clause-sized
find_item-requires-clause-sized g c =
    let values = overlaid c.args.frame.now.outputs.now c.args.held.now (g.V.Values.values c.args.frame.now.values.now) in (
      sign_of (expression_of c.args.value.now),
      subst (λ n. AreSizedItems n (sign_of (expression_of c.args.value.now)) (items_of c.args.items.now))
          (sym (ap length c.eval_over-bits.ensures ∙ length-value_of (value_at values) (expression_of c.args.value.now))) c.requires.may.2.sized.2,
    )

pub find_item-requires-clause-there : goal.find_item-requires-clause-there
find_item-requires-clause-there g c =
    AllHold-left _ (named_by_items (items_of c.args.items.now)) (named_by c.requires.may.1)
    (AllHold-right _ (named_in (expression_of c.args.value.now)) (named_by_items (items_of c.args.items.now) ++ named_by c.requires.may.1) c.requires.may.2.there)
