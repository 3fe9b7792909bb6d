use Rattle.std.proofs.Common.{Bool, ap, ap₂, refl, ◌∙◌}
use Rattle.vf_base.specs.Base.{SourcePlace, source_place}
use Rattle.v_tree.specs.Trees.{place_of_expression}
use Rattle.v_tree.specs.Views.{expression_of}
use Rattle.v_names.specs.Faults.{BadConnection, fault_if}
use Rattle.v_names.specs.Readings.{Reading, reading_of, alone_faults}
use Rattle.v_width.specs.Targets.{width_of_size}
use Rattle.v_elab.specs.ItemFaults.{is_not_one, terminal_faults}
use Rattle.name_checks.specs.Noted.{noted, noted-two}
use Rattle.item_checks.proofs.assigned.note_terminal.Goals as goal

pub returns : goal.returns
returns c =
    let reading : Reading = reading_of c.args.scope.now (expression_of c.args.expr.now) in
    noted-two c.args.first.now c.note_group.new.first c.note_where.new.first (alone_faults reading)
    (fault_if (is_not_one (width_of_size reading.size)) (place_of_expression (expression_of c.args.expr.now)) BadConnection) (terminal_faults c.args.scope.now (expression_of c.args.expr.now))
    (c.note_group.ensures reading.here reading.inside c.in_ok-read.ensures.faults_are)
    (c.note_where.ensures
    ∙ ap₂ (λ (b : Bool) (p : SourcePlace). noted c.note_group.new.first (fault_if b p BadConnection))
    (c.is_not_one.ensures ∙ ap is_not_one (c.width_of.ensures ∙ ap width_of_size c.in_ok-read.ensures.size_is)) c.place_of_expr.ensures) refl
