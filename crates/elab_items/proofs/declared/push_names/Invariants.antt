use Rattle.std.proofs.Common.{◌≡◌, ◌++◌, map, flat_map, drop}
use Rattle.v_tree.specs.Views.{name_of}
use Rattle.v_names.specs.Names as names
use Rattle.v_names.specs.Names.{names_declared}
use Rattle.v_elab.specs.Walk as plain
use Rattle.v_elab.specs.Walk.{parts_of_own}
use Rattle.elab_parts.specs.PartViews.{parts_of}
use Rattle.module_scope.specs.Declarations.{name_declared}
use Rattle.elab_items.specs.Heres.{IsHere}
use Rattle.elab_items.proofs.declared.push_names.Given as goal

abbrev pub invariant-names : goal.invariant-names
invariant-names l =
    (h : plain.Here) (declared : names.Declared) → IsHere h l.here
    → parts_of l.parts.items ++ flat_map (parts_of_own h (names_declared h.instance.inner)) (map (name_declared declared) (map name_of (drop l.name-index l.names)))
    ≡ parts_of l.initial.parts.items ++ flat_map (parts_of_own h (names_declared h.instance.inner)) (map (name_declared declared) (map name_of l.names))
