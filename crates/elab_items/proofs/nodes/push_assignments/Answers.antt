use Rattle.std.proofs.Common.{List, [], ◌∷◌, ◌++◌, map, refl, ap, ◌∙◌}
use Rattle.v_tree.specs.Trees.{SourceAssignment}
use Rattle.v_tree.specs.Views.{expression_of, target_of, assignment_of}
use Rattle.v_tree.specs.declared.item.Assignment.{Assignment}
use Rattle.v_elab.specs.Parts.{Part}
use Rattle.v_elab.specs.Walk.{assign_part}
use Rattle.name_checks.specs.Rows.{list-more}
use Rattle.elab_parts.specs.PartViews.{parts_of}
use Rattle.select_bits.specs.Runs.{TargetTakesRuns}
use Rattle.elab_items.proofs.Rows.{list-done, holds-of}
use Rattle.elab_items.proofs.nodes.push_assignments.Goals as goal

pub assignments-preserved : goal.assignments-preserved
assignments-preserved c h i =
    list-more (λ (x : Assignment). assign_part h (target_of x.target) (expression_of x.value) ∷ [])
    (λ (xs : List Assignment). map (λ (a : SourceAssignment). assign_part h a.target a.value) (map assignment_of xs))
    c.args.assignments.now c.assignments.assignment-index c.assignment-item.result (parts_of c.assignments.parts.items) (parts_of c.push_part.new.parts.items) _
    (λ y ys. refl) c.assignments-test.true c.assignment-item.is
    (c.in_ok-push_part.ensures ∙ ap (λ (p : Part). parts_of c.assignments.parts.items ++ p ∷ []) (c.in_ok-part.ensures h i)) (c.assignments.invariant h i)

pub returns : goal.returns
returns c h i =
    list-done (λ (xs : List Assignment). map (λ (a : SourceAssignment). assign_part h a.target a.value) (map assignment_of xs)) c.args.assignments.now c.assignments.assignment-index
    (parts_of c.assignments.parts.items) _ refl c.assignments-test.false (c.assignments.invariant h i)

pub assign_part-requires : goal.assign_part-requires
assign_part-requires c =
    holds-of (λ (a : SourceAssignment). TargetTakesRuns c.args.here.now.scope.value a.target) assignment_of c.args.assignments.now c.assignments.assignment-index c.assignment-item.result c.requires
    c.assignments-test.true c.assignment-item.is
