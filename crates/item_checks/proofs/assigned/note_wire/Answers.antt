use Rattle.std.proofs.Common.{◌++◌, Option, ap, sym, ◌∙◌}
use Rattle.vf_base.specs.Base.{source_place}
use Rattle.v_tree.specs.Views.{expression_of, expression_in}
use Rattle.v_tree.specs.declared.expression.Expr.{Expr}
use Rattle.v_names.specs.Constants.{optional_faults}
use Rattle.v_names.specs.Readings.{Reading, reading_of}
use Rattle.v_width.specs.Targets.{ByNode, TargetReading, target_reading}
use Rattle.v_elab.specs.ItemFaults.{assigned_faults}
use Rattle.name_checks.specs.Noted.{noted}
use Rattle.item_checks.specs.Wholes.{whole_target}
use Rattle.item_checks.proofs.Wholes.{whole-are}
use Rattle.item_checks.proofs.assigned.note_wire.Goals as goal

pub returns-in_ok-value-in-Some : goal.returns-in_ok-value-in-Some
returns-in_ok-value-in-Some c =
    let target : TargetReading = target_reading ByNode c.args.scope.now (whole_target c.args.wire.now.name (source_place c.args.wire.now.place)) in
    let value : Reading = reading_of c.args.scope.now (expression_of c.in-Some.value) in
    c.note_group.ensures (target.here ++ value.here) (target.inside ++ value.inside)
    (c.together.ensures target.here target.inside value.here value.inside (whole-are c.args.scope.now c.args.wire.now.name
    (source_place c.args.wire.now.place) c.whole_faults-target.result c.whole_faults-target.ensures) c.in_ok-value-in-Some.ensures.faults_are)
    ∙ ap (λ (o : Option Expr). noted c.args.first.now (optional_faults (assigned_faults ByNode c.args.scope.now (whole_target c.args.wire.now.name (source_place c.args.wire.now.place)))
    (expression_in o))) (sym c.in-Some.is)
