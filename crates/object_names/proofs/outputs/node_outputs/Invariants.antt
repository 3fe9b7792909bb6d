use Rattle.std.proofs.Common.{◌≡◌, take, map}
use Rattle.v_design.specs.Expressions.{up_from}
use Rattle.v_elab.specs.Flat.{outputs_of}
use Rattle.elab_objects.specs.ObjectViews.{held_objects}
use Rattle.object_names.specs.OutputViews.{output_lists}
use Rattle.object_names.proofs.outputs.node_outputs.Given as goal

abbrev pub invariant-objects : goal.invariant-objects
invariant-objects l = output_lists l.outputs.items ≡ map (outputs_of (held_objects (take l.number l.objects))) (up_from 0 l.nodes)
