use Rattle.std.proofs.Common.{◌≡◌, ◌++◌, map, drop}
use Rattle.vf_base.specs.Base.{object_number}
use Rattle.object_names.specs.OutputViews.{output_of}
use Rattle.elab_nodes.specs.Inputs.{objects_written}
use Rattle.elab_nodes.proofs.node.output_objects.Given as goal

abbrev pub invariant-outputs : goal.invariant-outputs
invariant-outputs l = map object_number l.objects.items ++ objects_written (map output_of (drop l.output-index l.outputs)) ≡ objects_written (map output_of l.outputs)
