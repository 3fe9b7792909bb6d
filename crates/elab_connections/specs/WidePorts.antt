-- Connected ports that are wider than a vector may be, which is refused at their declarations.
use Rattle.std.specs.Prelude.{ℕ, ◌+◌, Bool, false, ◌||◌, List, [], ◌∷◌, Option, Some, None, nat_lt}
use Rattle.v_design.specs.Sized.{most_bits}
use Rattle.v_tree.specs.Trees.{Identifier, SourceConnection}
use Rattle.v_elab.specs.Connections.{Child, connected_name, head_names, port_width}

abbrev pub is_wide : Child → Option Identifier → Bool
is_wide child None = false
is_wide child (Some port) = nat_lt most_bits (port_width child port)

-- whether one of the connections, from a position on, is that of such a port
abbrev pub connects_wide_port : Child → ℕ → List SourceConnection → Bool
connects_wide_port child position [] = false
connects_wide_port child position (connection ∷ rest) = is_wide child (connected_name (head_names child.inner.heads) position connection.name) || connects_wide_port child (position + 1) rest
