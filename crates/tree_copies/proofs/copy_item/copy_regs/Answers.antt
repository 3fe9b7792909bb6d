use Rattle.std.proofs.Common.{map, ap, ◌∙◌}
use Rattle.v_tree.specs.Views.{reg_of}
use Rattle.tree_copies.specs.Turns.{one-more}
use Rattle.tree_copies.proofs.copy_item.copy_regs.Goals as goal

pub regs-preserved : goal.regs-preserved
regs-preserved c =
    ap (map reg_of) c.in_ok-push.ensures.items
    ∙ one-more reg_of c.args.regs.now c.regs.copies.items c.regs.reg-index c.reg-item.result c.in_ok-copy.copy c.regs-test.true c.reg-item.is c.in_ok-copy.ensures c.regs.invariant
