use Rattle.std.proofs.Common.{◌≡◌, ℕ, List, map, option_map, drop}
use Rattle.std.specs.Option.{option_or}
use Rattle.v_elab.specs.Walk.{joining_of}
use Rattle.module_scope.specs.Kept.{kept}
use Rattle.elab_items.specs.Joins.{port_joined_of, joining_seen}
use Rattle.elab_items.proofs.joins.joins_by_name.Given as goal

abbrev pub invariant-ports : goal.invariant-ports
invariant-ports l =
    (name : List ℕ) → option_or (option_map joining_seen (kept l.joins name)) (joining_of (map port_joined_of (drop l.joined-index l.ports)) name) ≡ joining_of (map port_joined_of l.ports) name
