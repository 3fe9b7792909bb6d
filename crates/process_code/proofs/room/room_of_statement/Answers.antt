use Rattle.std.proofs.Common.{◌≡◌, ◌+◌, sym, ap, ◌∙◌}
use Rattle.v_design.specs.Plain.{expression_of, statement_of}
use Rattle.v_design.specs.PlainLemmas.{items_of, statement_of-Case}
use Rattle.process_operands.specs.Bounds.{reads_most, reads_most_items}
use Rattle.process_code.specs.StatesOf.{most_operands}
use Rattle.process_code.proofs.room.room_of_statement.Goals as goal

pub returns-in_ok-most_case_reads-in-Case-clause-operands : goal.returns-in_ok-most_case_reads-in-Case-clause-operands
returns-in_ok-most_case_reads-in-Case-clause-operands c =
    c.in_ok-most_case_reads-in-Case.ensures
    ∙ ap (λ l. reads_most (expression_of c.in-Case.value) + reads_most_items (items_of l)) c.deref.ensures.value
    ∙ sym (ap most_operands (ap statement_of c.in-Case.is ∙ statement_of-Case c.in-Case.place c.in-Case.kind c.in-Case.value c.in-Case.items c.in-Case.default))
