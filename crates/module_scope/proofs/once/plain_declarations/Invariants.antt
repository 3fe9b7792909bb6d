use Rattle.std.proofs.Common.{◌≡◌, ℕ, List, drop, option_map}
use Rattle.v_names.specs.Names.{plain_of_name}
use Rattle.module_scope.specs.Declarations.{declaration_seen, declarations_seen, or_first, first_in}
use Rattle.module_scope.specs.Kept.{kept}
use Rattle.module_scope.proofs.once.plain_declarations.Given as goal

abbrev pub invariant-all : goal.invariant-all
invariant-all l =
    (name : List ℕ) → or_first (option_map declaration_seen (kept l.plains name)) (plain_of_name name (declarations_seen (drop l.declaration-index l.all))) ≡ first_in
    (plain_of_name name (declarations_seen l.all))
