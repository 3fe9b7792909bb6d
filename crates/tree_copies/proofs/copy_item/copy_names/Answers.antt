use Rattle.std.proofs.Common.{map, ap, ◌∙◌}
use Rattle.v_tree.specs.Views.{name_of}
use Rattle.tree_copies.specs.Turns.{one-more}
use Rattle.tree_copies.proofs.copy_item.copy_names.Goals as goal

pub names-preserved : goal.names-preserved
names-preserved c =
    ap (map name_of) c.in_ok-push.ensures.items
    ∙ one-more name_of c.args.names.now c.names.copies.items c.names.name-index c.name-item.result c.in_ok-copy.copy c.names-test.true c.name-item.is c.in_ok-copy.ensures c.names.invariant
