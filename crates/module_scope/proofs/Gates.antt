-- What gates declare, one at a time.
use Rattle.std.proofs.Common.{◌≡◌, List, [], ◌∷◌, ◌++◌, map, Option, Some, None, refl}
use Rattle.v_tree.specs.Trees.{NamedPlace, SourceGate, SourceTarget, SourceExpression}
use Rattle.v_tree.specs.Views.{gate_of}
use Rattle.v_tree.specs.declared.item.Gate.{Gate}
use Rattle.v_names.specs.Names.{gate_declarations}

by-name : (name : Option NamedPlace) (output : SourceTarget) (inputs : List SourceExpression) (rest : List SourceGate)
    → gate_declarations (record { name = name; output = output; inputs = inputs } ∷ rest) ≡ gate_declarations (record { name = name; output = output; inputs = inputs } ∷ []) ++ gate_declarations rest
by-name None output inputs rest = refl
by-name (Some n) output inputs rest = refl

pub gate-first : (gate : Gate) (gates : List Gate) → gate_declarations (map gate_of (gate ∷ gates)) ≡ gate_declarations (gate_of gate ∷ []) ++ gate_declarations (map gate_of gates)
gate-first gate gates = by-name (gate_of gate).name (gate_of gate).output (gate_of gate).inputs (map gate_of gates)
