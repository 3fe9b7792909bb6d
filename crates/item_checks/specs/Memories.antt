-- Memories among names.
use Rattle.std.specs.Prelude.{List, [], ◌∷◌, map, filter}
use Rattle.vf_base.specs.Base.{SourcePlace}
use Rattle.v_tree.specs.Trees.{Identifier, NamedPlace}
use Rattle.v_names.specs.Faults.{Fault, WrongKind, fault_at}
use Rattle.v_names.specs.Scopes.{Scope, looked_up, is_memory}

-- the names that are those of memories, as names of the wrong kind
abbrev pub memories_faults : Scope → List NamedPlace → List Fault
memories_faults scope names = map (λ (n : NamedPlace). fault_at n.place WrongKind) (filter (λ (n : NamedPlace). is_memory (looked_up scope n.name)) names)

-- the same of one name
abbrev pub memory_fault_of : Scope → Identifier → SourcePlace → List Fault
memory_fault_of scope name place = memories_faults scope (record { name = name; place = place } ∷ [])
