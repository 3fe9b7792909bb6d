use Rattle.std.proofs.Common.{◌≡◌, true, false, ap, ◌∙◌, rules}
use Rattle.v_tree.specs.Views.{statement_of}
use Rattle.input_counts.specs.FormReads.{form_reads_over}
use Rattle.input_counts.proofs.OverLaws.{block-few, block-many}
use Rattle.input_counts.proofs.blocks.waiting_reads_over.Goals as goal

pub returns-then-not-over : goal.returns-then-not-over
returns-then-not-over c finds place waits is =
    let fails : c.form_reads_over-over.result ≡ false = search rules in
    block-few c.args.scope.now (statement_of c.args.inner.now) place waits (statement_of c.args.block.now) c.form_reads_over-over.result is
    (c.form_reads_over-over.ensures ∙ ap (form_reads_over c.args.scope.now) c.in_ok-form.ensures) fails

pub returns : goal.returns
returns c finds place waits is =
    let holds : c.form_reads_over-over.result ≡ true = search rules in
    c.is_some.ensures
    ∙ block-many c.args.scope.now (statement_of c.args.inner.now) place waits (statement_of c.args.block.now) c.form_reads_over-over.result is
    (c.form_reads_over-over.ensures ∙ ap (form_reads_over c.args.scope.now) c.in_ok-form.ensures) holds
    c.in_ok-targets.targets (c.in_ok-targets.ensures finds)
