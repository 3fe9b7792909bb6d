use Rattle.v_tree.specs.Views.{expression_of}
use Rattle.v_names.specs.Readings.{reading_of}
use Rattle.item_checks.proofs.sizes.note_size.Goals as goal

pub returns : goal.returns
returns c = c.note_group.ensures (reading_of c.args.scope.now (expression_of c.args.expr.now)).here (reading_of c.args.scope.now (expression_of c.args.expr.now)).inside c.in_ok-read.ensures.faults_are
