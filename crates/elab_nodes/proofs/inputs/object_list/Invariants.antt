use Rattle.std.proofs.Common.{◌≡◌, ℕ, map, drop}
use Rattle.std.specs.Prelude.{◌||◌}
use Rattle.vf_base.specs.Lists.{has}
use Rattle.object_names.specs.OutputViews.{output_of}
use Rattle.elab_nodes.specs.Inputs.{objects_written}
use Rattle.elab_nodes.proofs.inputs.object_list.Given as goal

abbrev pub invariant-outputs : goal.invariant-outputs
invariant-outputs l = (n : ℕ) → (has l.own n || has (objects_written (map output_of (drop l.output-index l.outputs))) n) ≡ has (objects_written (map output_of l.outputs)) n
