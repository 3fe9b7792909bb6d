use Rattle.v_tree.specs.Views.{target_of}
use Rattle.v_width.specs.Targets.{ByNode, TargetReading, target_reading}
use Rattle.item_checks.proofs.assigned.note_net_target.Goals as goal

pub returns-clause-noted : goal.returns-clause-noted
returns-clause-noted c =
    let reading : TargetReading = target_reading ByNode c.args.scope.now (target_of c.args.target.now) in
    c.note_group.ensures reading.here reading.inside c.in_ok-read.ensures.faults_are

pub returns-clause-width : goal.returns-clause-width
returns-clause-width c = c.in_ok-read.ensures.width_is
