use Rattle.std.proofs.Common.{◌∙◌}
use Rattle.object_names.proofs.OutputTurns.{nothing-written, objects-turn}
use Rattle.object_names.proofs.outputs.node_outputs.Goals as goal

pub objects-init : goal.objects-init
objects-init c = c.in_ok-outputs.ensures ∙ nothing-written 0 c.args.nodes

pub objects-preserved : goal.objects-preserved
objects-preserved c =
    objects-turn c.args.objects.now c.objects.number c.index-objects-number.result c.args.nodes _ _ c.objects-test.true c.index-objects-number.is c.objects.invariant c.in_ok-push_object.ensures
