use Rattle.std.proofs.Common.{[]}
use Rattle.v_elab.specs.Drivers.{signals_of}
use Rattle.elab_parts.specs.PartViews.{part_of}
use Rattle.elab_wires.specs.Turns.{turn}
use Rattle.driver_checks.specs.Driving.{driving_besides}
use Rattle.driver_checks.proofs.DrivingTurns.{besides-append}
use Rattle.driver_checks.proofs.driving.list_besides.Goals as goal

pub parts-preserved : goal.parts-preserved
parts-preserved c =
    turn part_of (λ ps. driving_besides c.args.signals.now c.args.targets.now (signals_of ps))
    (besides-append c.args.signals.now c.args.targets.now) c.args.parts.now c.parts.part-index c.part-item.result [] _ _ c.parts-test.true c.part-item.is
    c.parts.invariant c.in_ok-push_part.ensures
