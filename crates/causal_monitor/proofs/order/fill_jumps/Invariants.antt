use Rattle.std.proofs.Common.{◌≡◌, vec_len}
use Rattle.causal_monitor.specs.Orders.{AreJumps}
use Rattle.causal_monitor.proofs.order.fill_jumps.Given as goal

abbrev pub invariant-events : goal.invariant-events
invariant-events l = record {
  count : vec_len l.jumps ≡ l.event;
  as_many : vec_len l.depths ≡ l.event;
  jumps : AreJumps l.log.log l.jumps.items;
}
