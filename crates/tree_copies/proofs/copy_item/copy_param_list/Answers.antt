use Rattle.std.proofs.Common.{map, ap, ◌∙◌}
use Rattle.v_tree.specs.Views.{parameter_of}
use Rattle.tree_copies.specs.Turns.{one-more}
use Rattle.tree_copies.proofs.copy_item.copy_param_list.Goals as goal

pub params-preserved : goal.params-preserved
params-preserved c =
    ap (map parameter_of) c.in_ok-push.ensures.items
    ∙ one-more parameter_of c.args.params.now c.params.copies.items c.params.param-index c.param-item.result c.in_ok-copy.copy c.params-test.true c.param-item.is c.in_ok-copy.ensures
    c.params.invariant
