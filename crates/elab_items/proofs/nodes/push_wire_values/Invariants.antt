use Rattle.std.proofs.Common.{◌≡◌, ◌++◌, map, flat_map, drop}
use Rattle.v_tree.specs.Views.{wire_of}
use Rattle.v_elab.specs.Walk as plain
use Rattle.v_elab.specs.Walk.{wire_parts}
use Rattle.elab_parts.specs.PartViews.{parts_of}
use Rattle.elab_items.specs.Heres.{IsHere}
use Rattle.elab_items.proofs.nodes.push_wire_values.Given as goal

abbrev pub invariant-wires : goal.invariant-wires
invariant-wires l =
    (h : plain.Here) → IsHere h l.here → parts_of l.parts.items ++ flat_map (wire_parts h) (map wire_of (drop l.wire-index l.wires)) ≡ parts_of l.initial.parts.items
    ++ flat_map (wire_parts h) (map wire_of l.wires)
