use Rattle.std.proofs.Common.{refl}
use Rattle.driver_checks.proofs.SecondTurns.{signals-turn}
use Rattle.driver_checks.proofs.second.second_by_depth.Goals as goal

pub signals-preserved : goal.signals-preserved
signals-preserved c = record {
  both = signals-turn c.args.signals.now c.signals.signal-index c.signal-item.result c.signals.first c.signals.second c.earlier.result c.later-second.result c.signals-test.true c.signal-item.is
      c.signals.invariant.both c.earlier.ensures c.later-second.ensures;
  second = refl;
}
