use Rattle.std.proofs.Common.{◌≡◌, ◌++◌, drop, map, flat_map}
use Rattle.v_names.specs.Constants.{name_faults}
use Rattle.v_names.specs.Names.{fixed_target_faults}
use Rattle.v_tree.specs.Trees.{SourceAssignment}
use Rattle.v_tree.specs.Views.{assignment_of}
use Rattle.name_checks.specs.Noted.{noted}
use Rattle.name_checks.proofs.items.note_assignments.Given as goal

abbrev pub invariant-assignments : goal.invariant-assignments
invariant-assignments l = noted l.first (flat_map (λ (a : SourceAssignment). fixed_target_faults l.scope a.target ++ name_faults l.scope a.value)
    (map assignment_of (drop l.assignment-index l.assignments))) ≡ noted l.initial.first (flat_map (λ (a : SourceAssignment). fixed_target_faults l.scope a.target ++ name_faults l.scope a.value)
    (map assignment_of l.assignments))
