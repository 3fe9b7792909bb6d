use Rattle.std.proofs.Common.{◌≡◌, ℕ, ◌||◌, List, map, is_some, drop}
use Rattle.v_tree.specs.Trees.{has_name}
use Rattle.v_tree.specs.Views.{entry_of}
use Rattle.module_scope.specs.Kept.{kept}
use Rattle.elab_items.specs.Forms.{entry_names}
use Rattle.elab_items.proofs.blocks.entry_names.Given as goal

abbrev pub invariant-entries : goal.invariant-entries
invariant-entries l =
    (name : List ℕ) → (is_some (kept l.names name) || has_name (entry_names (map entry_of (drop l.entry-index l.entries))) name) ≡ has_name (entry_names (map entry_of l.entries)) name
