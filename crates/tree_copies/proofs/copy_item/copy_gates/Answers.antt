use Rattle.std.proofs.Common.{map, ap, ◌∙◌}
use Rattle.v_tree.specs.Views.{gate_of}
use Rattle.tree_copies.specs.Turns.{one-more}
use Rattle.tree_copies.proofs.copy_item.copy_gates.Goals as goal

pub gates-preserved : goal.gates-preserved
gates-preserved c =
    ap (map gate_of) c.in_ok-push.ensures.items
    ∙ one-more gate_of c.args.gates.now c.gates.copies.items c.gates.gate-index c.gate-item.result c.in_ok-copy.copy c.gates-test.true c.gate-item.is c.in_ok-copy.ensures c.gates.invariant
