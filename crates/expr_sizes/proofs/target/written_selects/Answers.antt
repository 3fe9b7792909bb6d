use Rattle.std.proofs.Common.{map, refl}
use Rattle.v_tree.specs.Views.{select_of}
use Rattle.v_width.specs.Targets.{selects_reading}
use Rattle.expr_sizes.specs.TargetReadings.{writer_of}
use Rattle.expr_sizes.proofs.TargetLaws.{selects-start, selects-more, selects-end}
use Rattle.expr_sizes.proofs.target.written_selects.Goals as goal

pub selects-init : goal.selects-init
selects-init c = selects-start (selects_reading (writer_of c.args.writer) c.args.scope.now (map select_of c.args.selects.now)) _ c.no_faults-faults.ensures refl

pub selects-preserved : goal.selects-preserved
selects-preserved c =
    selects-more (writer_of c.args.writer) c.args.scope.now c.args.selects.now c.selects.select-index c.select-item.result c.in_ok-own.own
    (record { width = c.selects.width; faults = c.selects.faults }) _
    c.selects-test.true c.select-item.is c.in_ok-own.ensures c.wider-width.ensures c.together-faults.ensures c.selects.invariant

pub returns : goal.returns
returns c = selects-end (writer_of c.args.writer) c.args.scope.now c.args.selects.now c.selects.select-index _ c.selects-test.false c.selects.invariant
