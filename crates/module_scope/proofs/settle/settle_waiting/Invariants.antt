use Rattle.std.proofs.Common.{◌≤◌}
use Rattle.module_scope.specs.Declarations.{declarations_seen}
use Rattle.module_scope.specs.Givens.{given_seen}
use Rattle.module_scope.specs.Settled.{waiting_left, IsSettled}
use Rattle.module_scope.specs.Ranges.{AreSettledRanges}
use Rattle.module_scope.proofs.settle.settle_waiting.Given as goal

abbrev pub invariant-order : goal.invariant-order
invariant-order l = record {
  settled : IsSettled (given_seen l.given) (declarations_seen l.declared) l.scope;
  fewer : waiting_left l.scope (declarations_seen l.declared) ≤ waiting_left l.fn.scope (declarations_seen l.declared);
  ranges : AreSettledRanges l.scope l.groups l.ranges;
}
