use Rattle.std.proofs.Common.{◌≡◌, ◌++◌, map, drop}
use Rattle.v_tree.specs.Trees.{SourceAssignment}
use Rattle.v_tree.specs.Views.{assignment_of}
use Rattle.v_elab.specs.Walk as plain
use Rattle.v_elab.specs.Walk.{assign_part}
use Rattle.elab_parts.specs.PartViews.{parts_of}
use Rattle.elab_items.specs.Heres.{IsHere}
use Rattle.elab_items.proofs.nodes.push_assignments.Given as goal

abbrev pub invariant-assignments : goal.invariant-assignments
invariant-assignments l =
    (h : plain.Here) → IsHere h l.here
    → parts_of l.parts.items ++ map (λ (a : SourceAssignment). assign_part h a.target a.value) (map assignment_of (drop l.assignment-index l.assignments))
    ≡ parts_of l.initial.parts.items ++ map (λ (a : SourceAssignment). assign_part h a.target a.value) (map assignment_of l.assignments)
