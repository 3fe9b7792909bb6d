use Rattle.std.proofs.Common.{◌≡◌, drop}
use Rattle.std.specs.Prelude.{◌||◌}
use Rattle.v_design.specs.Plain.{expressions_of}
use Rattle.v_design.specs.Assignments.{some_label_matches}
use Rattle.v_design.specs.Expressions.{read_each}
use Rattle.process_operands.specs.Sought.{got}
use Rattle.process_operands.proofs.choice.read_labels.Given as goal

abbrev pub invariant-labels : goal.invariant-labels
invariant-labels l =
    got (some_label_matches l.kind l.value) (read_each (expressions_of l.labels) (drop l.fn.used l.operands))
    ≡ got (λ values. l.matches || some_label_matches l.kind l.value values) (read_each (expressions_of (drop l.label-index l.labels)) (drop l.used l.operands))
