use Rattle.std.proofs.Common.{◌≡◌, take}
use Rattle.v_names.specs.Names.{meanings}
use Rattle.module_scope.specs.Declarations.{declarations_seen}
use Rattle.module_scope.specs.Givens.{given_seen}
use Rattle.module_scope.specs.Ranges.{kept_range, AreRanges}
use Rattle.module_scope.proofs.settle.meanings.Given as goal

abbrev pub invariant-declared : goal.invariant-declared
invariant-declared l = record {
  scope : l.scope ≡ meanings l.settled (given_seen l.given) (take l.declaration-index (declarations_seen l.declared));
  ranges : AreRanges l.settled l.groups (kept_range l.ranges);
}
