use Rattle.std.proofs.Common.{map, ap, ◌∙◌}
use Rattle.v_tree.specs.Views.{expression_of}
use Rattle.tree_copies.specs.Turns.{one-more}
use Rattle.tree_copies.proofs.select.copy_parts.Goals as goal

pub parts-preserved : goal.parts-preserved
parts-preserved c =
    ap (map expression_of) c.in_ok-push.ensures.items
    ∙ one-more expression_of c.args.parts.now c.parts.copies.items c.parts.part-index c.part-item.result c.in_ok-copy.copy c.parts-test.true c.part-item.is c.in_ok-copy.ensures
    c.parts.invariant
