use Rattle.std.proofs.Common.{ℕ, List, map, drop, option_map}
use Rattle.module_scope.specs.Kept.{kept}
use Rattle.module_scope.specs.Declarations.{declaration_seen}
use Rattle.module_scope.proofs.ByName.{AreFound}
use Rattle.module_scope.proofs.by_name.declarations_by_name.Given as goal

abbrev pub invariant-declared : goal.invariant-declared
invariant-declared l = AreFound (λ (name : List ℕ). option_map declaration_seen (kept l.found name)) (map declaration_seen (drop l.declaration-index l.declared)) (map declaration_seen l.declared)
