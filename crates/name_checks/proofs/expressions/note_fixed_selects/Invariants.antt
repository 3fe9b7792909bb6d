use Rattle.std.proofs.Common.{◌≡◌, drop, map, flat_map}
use Rattle.v_tree.specs.Views.{select_of}
use Rattle.v_names.specs.Constants.{fixed_select_faults}
use Rattle.name_checks.specs.Noted.{noted}
use Rattle.name_checks.proofs.expressions.note_fixed_selects.Given as goal

abbrev pub invariant-selects : goal.invariant-selects
invariant-selects l = noted l.first (flat_map (fixed_select_faults l.scope) (map select_of (drop l.select-index l.selects))) ≡ noted l.initial.first
    (flat_map (fixed_select_faults l.scope) (map select_of l.selects))
