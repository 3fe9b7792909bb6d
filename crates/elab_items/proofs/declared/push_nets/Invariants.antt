use Rattle.std.proofs.Common.{◌≡◌, ◌++◌, Bool, map, flat_map, drop}
use Rattle.v_tree.specs.Views.{wire_of}
use Rattle.v_names.specs.Names.{Bounds, names_declared}
use Rattle.v_elab.specs.Walk as plain
use Rattle.v_elab.specs.Walk.{parts_of_own}
use Rattle.elab_parts.specs.PartViews.{parts_of}
use Rattle.module_scope.specs.Declarations.{wire_declarations}
use Rattle.elab_items.specs.Heres.{IsHere}
use Rattle.elab_items.proofs.declared.push_nets.Given as goal

abbrev pub invariant-wires : goal.invariant-wires
invariant-wires l =
    (h : plain.Here) (signed : Bool) (bounds : Bounds) → IsHere h l.here
    → parts_of l.parts.items ++ flat_map (parts_of_own h (names_declared h.instance.inner)) (wire_declarations signed bounds (map wire_of (drop l.wire-index l.wires)))
    ≡ parts_of l.initial.parts.items ++ flat_map (parts_of_own h (names_declared h.instance.inner)) (wire_declarations signed bounds (map wire_of l.wires))
