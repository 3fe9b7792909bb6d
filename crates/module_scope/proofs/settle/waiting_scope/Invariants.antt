use Rattle.std.proofs.Common.{◌≡◌, take}
use Rattle.v_names.specs.Names.{waiting_scope}
use Rattle.module_scope.specs.Declarations.{declarations_seen}
use Rattle.module_scope.proofs.settle.waiting_scope.Given as goal

abbrev pub invariant-declared : goal.invariant-declared
invariant-declared l = l.scope ≡ waiting_scope (take l.declaration-index (declarations_seen l.declared))
