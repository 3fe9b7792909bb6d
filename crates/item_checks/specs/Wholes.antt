-- Whole nets that are assigned where they are declared.
use Rattle.std.specs.Prelude.{ℕ, not, ◌&&◌, List, [], ◌∷◌, Option, Some, None, nat_le}
use Rattle.vf_base.specs.Base.{SourcePlace}
use Rattle.v_design.specs.Sized.{most_bits}
use Rattle.v_tree.specs.Trees.{Identifier, NoIndex, SourceTarget, OneSelect}
use Rattle.v_names.specs.Faults.{Fault, BadWidth, WrongKind, fault_at, fault_if}
use Rattle.v_names.specs.Scopes.{ScopeEntry, NetEntry, range_width}

-- a whole name as a target
abbrev pub whole_target : Identifier → SourcePlace → SourceTarget
whole_target name place = OneSelect (record { place = place; name = name; index = NoIndex })

-- a net is at least one bit wide, and at most as wide as a vector may be
abbrev pub net_width_faults : ℕ → SourcePlace → List Fault
net_width_faults width place = fault_if (not (nat_le 1 width && nat_le width most_bits)) place BadWidth

-- what is wrong with a whole name that is assigned as a net; one that isn't declared is refused elsewhere
abbrev pub whole_net_faults : Option ScopeEntry → SourcePlace → List Fault
whole_net_faults None place = []
whole_net_faults (Some (NetEntry range signed)) place = net_width_faults (range_width range) place
whole_net_faults (Some _) place = fault_at place WrongKind ∷ []
