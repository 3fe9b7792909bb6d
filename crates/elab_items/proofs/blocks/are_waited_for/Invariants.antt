use Rattle.std.proofs.Common.{◌≡◌, ℕ, ◌++◌, List, is_some, drop}
use Rattle.std.specs.List.{list_all}
use Rattle.v_tree.specs.Trees.{has_name}
use Rattle.v_elab.specs.Blocks.{parameter_names}
use Rattle.module_scope.specs.Kept.{kept}
use Rattle.elab_items.specs.Heres.{FindsParameters}
use Rattle.elab_items.proofs.blocks.are_waited_for.Given as goal

abbrev pub invariant-reads : goal.invariant-reads
invariant-reads l =
    FindsParameters l.scope → (names : List (List ℕ)) → ((name : List ℕ) → is_some (kept l.waited name) ≡ has_name names name)
    → list_all (has_name (names ++ parameter_names l.scope)) (drop l.name-index l.reads) ≡ list_all (has_name (names ++ parameter_names l.scope)) l.reads
