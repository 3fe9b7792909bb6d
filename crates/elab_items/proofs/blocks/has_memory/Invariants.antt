use Rattle.std.proofs.Common.{◌≡◌, ℕ, List, drop}
use Rattle.std.specs.List.{list_any}
use Rattle.v_names.specs.Scopes.{looked_up, is_memory}
use Rattle.elab_items.proofs.blocks.has_memory.Given as goal

abbrev pub invariant-names : goal.invariant-names
invariant-names l = list_any (λ (name : List ℕ). is_memory (looked_up l.scope name)) (drop l.name-index l.names) ≡ list_any (λ (name : List ℕ). is_memory (looked_up l.scope name)) l.names
