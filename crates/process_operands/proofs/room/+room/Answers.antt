use Rattle.std.proofs.Common.{sym, ◌∙◌, ap}
use Rattle.v_design.specs.Plain.{expression_of, expressions_of}
use Rattle.v_design.specs.PlainLemmas.{expression_of-Concatenation, expression_of-Replication}
use Rattle.process_operands.specs.Bounds.{reads_most, reads_most_each}
use Rattle.process_operands.proofs.room.+room.Goals as goal

pub most_reads-returns-in_ok-parts-in-Concatenation : goal.most_reads-returns-in_ok-parts-in-Concatenation
most_reads-returns-in_ok-parts-in-Concatenation t c =
    c.in_ok-parts-in-Concatenation.ensures ∙ ap (λ l. reads_most_each (expressions_of l)) c.deref-in-Concatenation.ensures.value
    ∙ sym (ap (λ e. reads_most (expression_of e)) c.in-Concatenation.is ∙ ap reads_most (expression_of-Concatenation c.in-Concatenation.width c.in-Concatenation.signed c.in-Concatenation.parts))

pub most_reads-returns-in_ok-parts-in-Replication : goal.most_reads-returns-in_ok-parts-in-Replication
most_reads-returns-in_ok-parts-in-Replication t c =
    c.in_ok-parts-in-Replication.ensures ∙ ap (λ l. reads_most_each (expressions_of l)) c.deref-in-Replication.ensures.value
    ∙ sym (ap (λ e. reads_most (expression_of e)) c.in-Replication.is ∙ ap reads_most (expression_of-Replication c.in-Replication.width c.in-Replication.signed c.in-Replication.count
    c.in-Replication.parts))
