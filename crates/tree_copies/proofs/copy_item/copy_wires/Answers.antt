use Rattle.std.proofs.Common.{map, ap, ◌∙◌}
use Rattle.v_tree.specs.Views.{wire_of}
use Rattle.tree_copies.specs.Turns.{one-more}
use Rattle.tree_copies.proofs.copy_item.copy_wires.Goals as goal

pub wires-preserved : goal.wires-preserved
wires-preserved c =
    ap (map wire_of) c.in_ok-push.ensures.items
    ∙ one-more wire_of c.args.wires.now c.wires.copies.items c.wires.wire-index c.wire-item.result c.in_ok-copy.copy c.wires-test.true c.wire-item.is c.in_ok-copy.ensures c.wires.invariant
