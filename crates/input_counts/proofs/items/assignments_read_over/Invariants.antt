use Rattle.std.proofs.Common.{◌≡◌, map, drop}
use Rattle.v_tree.specs.Trees.{SourceAssignment}
use Rattle.v_tree.specs.Views.{assignment_of}
use Rattle.v_elab.specs.ReadCounts.{some_reads_over, value_reads}
use Rattle.input_counts.proofs.items.assignments_read_over.Given as goal

abbrev pub invariant-assignments : goal.invariant-assignments
invariant-assignments l = some_reads_over l.scope (map (λ (a : SourceAssignment). value_reads a.value) (map assignment_of (drop l.assignment-index l.assignments))) ≡ some_reads_over l.scope
    (map (λ (a : SourceAssignment). value_reads a.value) (map assignment_of l.assignments))
