use Rattle.elab_objects.proofs.Owners.{signals-turn}
use Rattle.elab_objects.proofs.parts.first_by_depth.Goals as goal

pub signals-preserved : goal.signals-preserved
signals-preserved c = signals-turn c.args.signals.now c.signals.signal-index c.signal-item.result c.signals.first c.earlier.result c.signals-test.true c.signal-item.is c.signals.invariant
    c.earlier.ensures
