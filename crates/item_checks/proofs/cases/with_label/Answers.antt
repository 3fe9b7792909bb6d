use Rattle.v_tree.specs.Views.{expression_of}
use Rattle.v_names.specs.Readings.{Reading, reading_of}
use Rattle.item_checks.proofs.cases.with_label.Goals as goal

pub returns : goal.returns
returns c =
    let reading : Reading = reading_of c.args.scope.now (expression_of c.args.label.now) in
    record { grows = λ here inside are. c.together.ensures here inside reading.here reading.inside are c.in_ok-read.ensures.faults_are }
