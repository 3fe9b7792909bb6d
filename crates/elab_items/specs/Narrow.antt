-- Names that are declared with no more bits than a vector may have (IEEE 1364-2001, clause 3.3; how many is this program's own choice).
use Rattle.std.specs.Prelude.{◌≤◌, List}
use Rattle.vf_base.specs.Lists.{AllHold}
use Rattle.v_design.specs.Sized.{most_bits}
use Rattle.v_tree.specs.Trees.{Identifier}
use Rattle.v_names.specs.Scopes.{Scope, looked_up, declared_width}
use Rattle.v_names.specs.Names.{Declaration}

abbrev pub IsNarrow : Scope → Identifier → Type 0
IsNarrow scope name = declared_width (looked_up scope name) ≤ most_bits

-- the names of some declarations
abbrev pub AreNarrow : Scope → List Declaration → Type 0
AreNarrow scope declarations = AllHold (λ (d : Declaration). IsNarrow scope d.name) declarations
