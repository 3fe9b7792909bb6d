-- One gate of an item.
use Rattle.std.specs.Prelude.{ℕ, ◌++◌, List, [], ◌∷◌}
use Rattle.four_value.specs.declared.operator.GateKind.{GateKind}
use Rattle.v_tree.specs.Trees.{SourceGate}
use Rattle.v_names.specs.SizedTrees.{SizedExpression, SizedExpressions, no_sized, more_sized}
use Rattle.v_elab.specs.Connections.{drives_of}
use Rattle.v_elab.specs.Parts.{Part, GatePart}
use Rattle.v_elab.specs.Walk.{Here, gate_name, terminals_of}

-- a gate of a number among its module's gates
abbrev pub gate_part : Here → GateKind → ℕ → SourceGate → Part
gate_part here kind number gate = GatePart (here.instance.path ++ gate_name number gate.name) kind (drives_of here.instance.path here.scope gate.output) here.instance.path
    (terminals_of here.scope gate.inputs)

-- sized expressions in a list
abbrev pub listed_sized : List SizedExpression → SizedExpressions
listed_sized [] = no_sized
listed_sized (first ∷ rest) = more_sized first (listed_sized rest)
