use Rattle.std.proofs.Common.{◌≡◌, true, false, List, [], ◌∷◌, map, refl, rules}
use Rattle.v_tree.specs.Trees.{SourceAssignment}
use Rattle.v_tree.specs.Views.{assignment_of}
use Rattle.v_tree.specs.declared.item.Assignment.{Assignment}
use Rattle.v_elab.specs.ReadCounts.{value_reads}
use Rattle.input_counts.proofs.OverLaws.{one-over, over-next, over-stop, over-done}
use Rattle.input_counts.proofs.items.assignments_read_over.Goals as goal

pub returns-then-over : goal.returns-then-over
returns-then-over c =
    let holds : c.in_ok-over.over ≡ true = search rules in
    over-stop c.args.scope.now (λ (a : Assignment). value_reads (assignment_of a).value ∷ [])
    (λ i (all : List Assignment). map (λ (a : SourceAssignment). value_reads a.value) (map assignment_of all)) c.args.assignments.now c.assignments.assignment-index c.assignment-item.result _
    c.in_ok-over.over (λ y ys. refl) c.assignments-test.true c.assignment-item.is
    (one-over c.args.scope.now (value_reads (assignment_of c.assignment-item.result).value) c.in_ok-over.over c.in_ok-over.ensures) holds c.assignments.invariant

pub assignments-preserved : goal.assignments-preserved
assignments-preserved c =
    let fails : c.in_ok-over.over ≡ false = search rules in
    over-next c.args.scope.now (λ (a : Assignment). value_reads (assignment_of a).value ∷ [])
    (λ i (all : List Assignment). map (λ (a : SourceAssignment). value_reads a.value) (map assignment_of all)) c.args.assignments.now c.assignments.assignment-index c.assignment-item.result _
    c.in_ok-over.over (λ y ys. refl) c.assignments-test.true c.assignment-item.is
    (one-over c.args.scope.now (value_reads (assignment_of c.assignment-item.result).value) c.in_ok-over.over c.in_ok-over.ensures) fails c.assignments.invariant

pub returns : goal.returns
returns c = over-done c.args.scope.now (λ i (all : List Assignment). map (λ (a : SourceAssignment). value_reads a.value) (map assignment_of all)) c.args.assignments.now
    c.assignments.assignment-index _ refl c.assignments-test.false c.assignments.invariant
