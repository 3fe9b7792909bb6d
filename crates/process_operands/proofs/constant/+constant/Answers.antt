use Rattle.std.proofs.Common.{sym, ◌∙◌, ap}
use Rattle.v_design.specs.Plain.{expression_of, expressions_of}
use Rattle.v_design.specs.PlainLemmas.{expression_of-Concatenation, expression_of-Replication}
use Rattle.v_design.specs.Expressions.{is_constant, are_constant}
use Rattle.process_operands.proofs.constant.+constant.Goals as goal

pub names_nothing-returns-in-Concatenation : goal.names_nothing-returns-in-Concatenation
names_nothing-returns-in-Concatenation t c =
    c.name_nothing.ensures ∙ ap (λ l. are_constant (expressions_of l)) c.deref-in-Concatenation.ensures.value
    ∙ sym (ap (λ e. is_constant (expression_of e)) c.in-Concatenation.is ∙ ap is_constant (expression_of-Concatenation c.in-Concatenation.width c.in-Concatenation.signed c.in-Concatenation.parts))

pub names_nothing-returns-in-Replication : goal.names_nothing-returns-in-Replication
names_nothing-returns-in-Replication t c =
    c.name_nothing-in-Replication.ensures ∙ ap (λ l. are_constant (expressions_of l)) c.deref-in-Replication.ensures.value
    ∙ sym (ap (λ e. is_constant (expression_of e)) c.in-Replication.is ∙ ap is_constant (expression_of-Replication c.in-Replication.width c.in-Replication.signed c.in-Replication.count
    c.in-Replication.parts))
