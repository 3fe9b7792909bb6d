use Rattle.std.proofs.Common.{map, ap}
use Rattle.object_names.specs.OutputViews.{output_of}
use Rattle.elab_nodes.specs.Inputs.{objects_written}
use Rattle.elab_nodes.proofs.Turns.{put-turn, here-at}
use Rattle.elab_nodes.proofs.inputs.object_list.Goals as goal

pub outputs-preserved : goal.outputs-preserved
outputs-preserved c = put-turn c.outputs.own c.put.new.self _ _ _ _ c.in_ok-put.ensures
    (ap (λ l. objects_written (map output_of l)) (here-at c.args.outputs.now c.outputs.output-index _ c.outputs-test.true)) c.outputs.invariant
