use Rattle.std.proofs.Common.{◌++◌}
use Rattle.v_tree.specs.Views.{expression_of, case_items_of}
use Rattle.v_names.specs.Readings.{Reading, reading_of}
use Rattle.v_elab.specs.ItemFaults.{GroupFaults, items_labels_faults}
use Rattle.item_checks.proofs.cases.note_case.Goals as goal

pub returns : goal.returns
returns c =
    let reading : Reading = reading_of c.args.scope.now (expression_of c.args.value.now) in
    let labels : GroupFaults = items_labels_faults c.args.scope.now (case_items_of c.args.items.now) in
    c.note_group.ensures (reading.here ++ labels.here) (reading.inside ++ labels.inside) (c.in_ok-faults.ensures.grows reading.here reading.inside c.in_ok-read.ensures.faults_are)
