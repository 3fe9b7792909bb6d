use Rattle.std.proofs.Common.{◌≡◌, drop, map, flat_map}
use Rattle.v_elab.specs.ItemFaults.{assigned_faults}
use Rattle.v_width.specs.Targets.{ByNode}
use Rattle.v_tree.specs.Trees.{SourceAssignment}
use Rattle.v_tree.specs.Views.{assignment_of}
use Rattle.name_checks.specs.Noted.{noted}
use Rattle.item_checks.proofs.assigned.note_assignments.Given as goal

abbrev pub invariant-assignments : goal.invariant-assignments
invariant-assignments l = noted l.first (flat_map (λ (a : SourceAssignment). assigned_faults ByNode l.scope a.target a.value) (map assignment_of (drop l.assignment-index l.assignments))) ≡ noted
    l.initial.first (flat_map (λ (a : SourceAssignment). assigned_faults ByNode l.scope a.target a.value) (map assignment_of l.assignments))
