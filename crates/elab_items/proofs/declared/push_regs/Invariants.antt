use Rattle.std.proofs.Common.{◌≡◌, ◌++◌, Bool, map, flat_map, drop}
use Rattle.v_tree.specs.Views.{reg_of}
use Rattle.v_names.specs.Names.{Bounds, names_declared, reg_declarations}
use Rattle.v_elab.specs.Walk as plain
use Rattle.v_elab.specs.Walk.{parts_of_own}
use Rattle.elab_parts.specs.PartViews.{parts_of}
use Rattle.elab_items.specs.Heres.{IsHere}
use Rattle.elab_items.proofs.declared.push_regs.Given as goal

abbrev pub invariant-regs : goal.invariant-regs
invariant-regs l =
    (h : plain.Here) (signed : Bool) (bounds : Bounds) → IsHere h l.here
    → parts_of l.parts.items ++ flat_map (parts_of_own h (names_declared h.instance.inner)) (reg_declarations signed bounds (map reg_of (drop l.reg-index l.regs)))
    ≡ parts_of l.initial.parts.items ++ flat_map (parts_of_own h (names_declared h.instance.inner)) (reg_declarations signed bounds (map reg_of l.regs))
