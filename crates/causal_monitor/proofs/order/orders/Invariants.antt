use Rattle.std.proofs.Common.{◌≡◌, ◌<◌, length}
use Rattle.v_design.specs.Logs.{orders}
use Rattle.causal_monitor.proofs.order.orders.Given as goal

abbrev pub invariant-back : goal.invariant-back
invariant-back l = record {
  noted : l.at < length l.log.log.events;
  same : orders l.log.log l.first l.at ≡ orders l.log.log l.first l.second;
}

abbrev pub decreases-back : goal.decreases-back
decreases-back l = l.at
