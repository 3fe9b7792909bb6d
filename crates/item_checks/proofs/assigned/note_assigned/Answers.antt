use Rattle.std.proofs.Common.{◌++◌}
use Rattle.v_tree.specs.Views.{expression_of, target_of}
use Rattle.v_names.specs.Readings.{Reading, reading_of}
use Rattle.v_width.specs.Targets.{TargetReading, target_reading}
use Rattle.expr_sizes.specs.TargetReadings.{writer_of}
use Rattle.item_checks.proofs.assigned.note_assigned.Goals as goal

pub returns : goal.returns
returns c =
    let target : TargetReading = target_reading (writer_of c.args.writer) c.args.scope.now (target_of c.args.target.now) in
    let value : Reading = reading_of c.args.scope.now (expression_of c.args.value.now) in
    c.note_group.ensures (target.here ++ value.here) (target.inside ++ value.inside) (c.together.ensures target.here target.inside value.here value.inside c.in_ok-target.ensures.faults_are
    c.in_ok-value.ensures.faults_are)
