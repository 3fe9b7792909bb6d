use Rattle.std.proofs.Common.{◌≡◌, ◌++◌, map, drop}
use Rattle.v_elab.specs.Flat.{NodeOutput}
use Rattle.object_names.specs.OutputViews.{output_of}
use Rattle.elab_nodes.proofs.kinds.output_places.Given as goal

abbrev pub invariant-outputs : goal.invariant-outputs
invariant-outputs l = l.places.items ++ map (λ (o : NodeOutput). o.place) (map output_of (drop l.output-index l.outputs)) ≡ map (λ (o : NodeOutput). o.place) (map output_of l.outputs)
