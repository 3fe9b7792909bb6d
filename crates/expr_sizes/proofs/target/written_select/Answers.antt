use Rattle.std.proofs.Common.{ap, ◌∙◌}
use Rattle.v_tree.specs.Views.{select_of}
use Rattle.v_width.specs.Targets.{may_write}
use Rattle.expr_sizes.specs.TargetReadings.{writer_of}
use Rattle.expr_sizes.proofs.TargetLaws.{written-select}
use Rattle.expr_sizes.proofs.target.written_select.Goals as goal

pub returns : goal.returns
returns c =
    written-select (writer_of c.args.writer) c.args.scope.now (select_of c.args.select.now) c.may_write-may.result c.written.result
    (c.may_write-may.ensures ∙ ap (may_write (writer_of c.args.writer)) c.lookup.ensures)
    (c.written.ensures _ c.in_ok-own.ensures)
