use Rattle.std.proofs.Common.{[]}
use Rattle.v_elab.specs.Drivers.{signals_of}
use Rattle.elab_parts.specs.PartViews.{part_of}
use Rattle.elab_wires.specs.WrittenNames.{output_names}
use Rattle.elab_wires.specs.Turns.{turn}
use Rattle.elab_wires.proofs.WrittenTurns.{outputs-append}
use Rattle.elab_wires.proofs.writers.list_outputs.Goals as goal

pub parts-preserved : goal.parts-preserved
parts-preserved c =
    turn part_of (λ ps. output_names (signals_of ps)) outputs-append c.args.parts.now c.parts.part-index c.part-item.result [] _ _ c.parts-test.true c.part-item.is c.parts.invariant
    c.in_ok-push_part_output.ensures
