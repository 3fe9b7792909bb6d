-- Connections whose outputs assign runs of bits (IEEE 1364-2001, clause 12.3.9 for outputs as assignments).
use Rattle.std.specs.Prelude.{ℕ, ◌+◌, List, [], ◌∷◌, Option, Some, None}
use Rattle.v_tree.specs.declared.item.Direction.{Direction}
use Rattle.v_tree.specs.declared.item.Direction.TheVariants.{Input, Output}
use Rattle.v_tree.specs.Trees.{Identifier, SourceExpression, SourceTarget, SourceConnection}
use Rattle.v_names.specs.Scopes.{Scope}
use Rattle.v_width.specs.Targets.{target_of}
use Rattle.v_elab.specs.Connections.{Child, connected_name, head_names, joined_name, port_direction}
use Rattle.select_bits.specs.Runs.{TargetTakesRuns}

-- an actual as a target, if it is one
abbrev pub OutputTakesRuns : Scope → Option SourceTarget → Type 0
OutputTakesRuns scope None = Unit {0}
OutputTakesRuns scope (Some target) = TargetTakesRuns scope target

-- the actual of a port of a direction, which may be joined with it
abbrev pub ActualTakesRuns : Scope → SourceExpression → Option Identifier → Option Direction → Type 0
ActualTakesRuns scope e (Some joined) direction = Unit {0}
ActualTakesRuns scope e None (Some Input) = Unit {0}
ActualTakesRuns scope e None (Some Output) = OutputTakesRuns scope (target_of e)
ActualTakesRuns scope e None None = Unit {0}

abbrev pub ConnectionTakesRuns : Child → Option Identifier → Option SourceExpression → Type 0
ConnectionTakesRuns child None actual = Unit {0}
ConnectionTakesRuns child (Some port) None = Unit {0}
ConnectionTakesRuns child (Some port) (Some e) = ActualTakesRuns child.outer_scope e (joined_name child port e) (port_direction child.inner port)

-- connections from a position on
abbrev pub ConnectionsTakeRuns : Child → ℕ → List SourceConnection → Type 0
ConnectionsTakeRuns child position [] = Unit {0}
ConnectionsTakeRuns child position (connection ∷ rest) =
    ConnectionTakesRuns child (connected_name (head_names child.inner.heads) position connection.name) connection.actual × ConnectionsTakeRuns child (position + 1) rest
