use Rattle.module_scope.specs.Declarations.{declarations_seen}
use Rattle.module_scope.specs.Givens.{given_seen}
use Rattle.module_scope.specs.Settled.{IsSettled, waiting_left}
use Rattle.module_scope.specs.Ranges.{AreSettledRanges}
use Rattle.module_scope.proofs.settle.settle_all.Given as goal

abbrev pub invariant-passes : goal.invariant-passes
invariant-passes l = record {
  settled : IsSettled (given_seen l.given) (declarations_seen l.declared) l.scope;
  ranges : AreSettledRanges l.scope l.groups l.ranges;
}

abbrev pub decreases-passes : goal.decreases-passes
decreases-passes l = waiting_left l.scope (declarations_seen l.declared)
