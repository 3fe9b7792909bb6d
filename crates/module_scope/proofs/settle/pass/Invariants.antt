use Rattle.std.proofs.Common.{drop}
use Rattle.module_scope.specs.Declarations.{declarations_seen}
use Rattle.module_scope.specs.Givens.{given_seen}
use Rattle.module_scope.proofs.Passes.{IsUnderWay}
use Rattle.module_scope.specs.Ranges.{AreSettledRanges}
use Rattle.module_scope.proofs.settle.pass.Given as goal

abbrev pub invariant-declared : goal.invariant-declared
invariant-declared l = record {
  way : IsUnderWay (given_seen l.given) (declarations_seen l.declared) l.fn.scope l.scope l.changed (declarations_seen (drop l.declaration-index l.declared));
  ranges : AreSettledRanges l.scope l.groups l.ranges;
}
