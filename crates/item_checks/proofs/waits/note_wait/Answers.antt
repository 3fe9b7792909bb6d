use Rattle.std.proofs.Common.{[], ◌++◌}
use Rattle.v_tree.specs.Views.{expression_of}
use Rattle.v_names.specs.Readings.{Reading, reading_of}
use Rattle.v_elab.specs.ItemFaults.{memory_faults}
use Rattle.item_checks.proofs.waits.note_wait.Goals as goal

pub returns : goal.returns
returns c =
    let reading : Reading = reading_of c.args.scope.now (expression_of c.args.condition.now) in
    c.note_group.ensures (memory_faults c.args.scope.now (expression_of c.args.condition.now) ++ reading.here) reading.inside
    (c.together.ensures (memory_faults c.args.scope.now (expression_of c.args.condition.now)) [] reading.here reading.inside c.memory_faults-memories.ensures c.in_ok-read.ensures.faults_are)
