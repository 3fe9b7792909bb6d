use Rattle.std.proofs.Common.{◌≡◌, drop}
use Rattle.v_design.specs.Plain.{expressions_of}
use Rattle.v_design.specs.Assignments.{value_at, some_label_matches, label_values}
use Rattle.node_eval.proofs.run.matches_label.Given as goal

abbrev pub invariant-labels : goal.invariant-labels
invariant-labels g l =
    record {
      matches : some_label_matches l.kind l.value (label_values (value_at (g.V.Values.values l.values)) (expressions_of l.labels))
          ≡ some_label_matches l.kind l.value (label_values (value_at (g.V.Values.values l.values)) (expressions_of (drop l.label-index l.labels)));
      levels : l.stack.depth ≡ l.fn.stack.depth;
    }
