use Rattle.std.proofs.Common.{map, ap, ◌∙◌}
use Rattle.v_tree.specs.Views.{module_of}
use Rattle.tree_copies.specs.Turns.{one-more}
use Rattle.tree_copies.proofs.copy_item.copy_modules.Goals as goal

pub modules-preserved : goal.modules-preserved
modules-preserved c =
    ap (map module_of) c.in_ok-push.ensures.items
    ∙ one-more module_of c.args.modules.now c.modules.copies.items c.modules.source-index c.source-item.result c.in_ok-copy.copy c.modules-test.true c.source-item.is c.in_ok-copy.ensures
    c.modules.invariant
