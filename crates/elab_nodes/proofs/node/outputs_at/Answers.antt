use Rattle.std.proofs.Common.{map, ap, ◌∙◌}
use Rattle.object_names.specs.OutputViews.{output_of}
use Rattle.elab_nodes.proofs.Turns.{outputs-are, outputs-there}
use Rattle.elab_nodes.proofs.node.outputs_at.Goals as goal

pub returns-in-Some : goal.returns-in-Some
returns-in-Some c objects count all low =
    ap (map output_of) c.deref.ensures.value ∙ outputs-are c.args.outputs.now c.args.number c.in-Some.own.now objects count c.in-Some.ensures.lookup.3.0 c.in-Some.ensures.lookup.1 all low

pub returns-in-None : goal.returns-in-None
returns-in-None c objects count all low = absurd (outputs-there c.args.outputs.now c.args.number objects count c.in-None.ensures.lookup.3 all low)
