-- Memories that are declared, and whole names as targets.
use Rattle.std.specs.Prelude.{ℕ, ◌++◌}
use Rattle.vf_base.specs.Base.{SourcePlace}
use Rattle.v_tree.specs.Trees.{Identifier, NoIndex, SourceTarget, OneSelect}
use Rattle.v_names.specs.Scopes.{DeclaredRange}
use Rattle.v_names.specs.Names.{Declaration}
use Rattle.v_elab.specs.Parts.{Part, MemoryPart}
use Rattle.v_elab.specs.Walk.{Here}

-- a memory with the range of a word and its first and last address
abbrev pub memory_part : Here → Declaration → DeclaredRange → ℕ → ℕ → Part
memory_part here d range first last = MemoryPart (record { name = here.instance.path ++ d.name; range = range; first = first; last = last; place = d.place })

abbrev pub whole_name : Identifier → SourcePlace → SourceTarget
whole_name name place = OneSelect (record { place = place; name = name; index = NoIndex })
