use Rattle.std.proofs.Common.{Bool, ap, ap₂, refl, ◌∙◌}
use Rattle.vf_base.specs.Base.{SourcePlace}
use Rattle.v_tree.specs.Trees.{place_of_target}
use Rattle.v_tree.specs.Views.{target_of}
use Rattle.v_names.specs.Faults.{BadConnection, fault_if}
use Rattle.v_width.specs.Targets.{ByNode, TargetReading, target_reading, target_alone_faults}
use Rattle.v_elab.specs.ItemFaults.{is_not_one, output_faults}
use Rattle.name_checks.specs.Noted.{noted, noted-two}
use Rattle.item_checks.proofs.assigned.note_output.Goals as goal

pub returns : goal.returns
returns c =
    let reading : TargetReading = target_reading ByNode c.args.scope.now (target_of c.args.target.now) in
    noted-two c.args.first.now c.note_net_target.new.first c.note_where.new.first (target_alone_faults reading)
    (fault_if (is_not_one reading.width) (place_of_target (target_of c.args.target.now)) BadConnection) (output_faults c.args.scope.now (target_of c.args.target.now))
    c.in_ok-width.ensures.noted
    (c.note_where.ensures ∙ ap₂ (λ (b : Bool) (p : SourcePlace). noted c.note_net_target.new.first (fault_if b p BadConnection))
    (c.is_not_one.ensures ∙ ap is_not_one c.in_ok-width.ensures.width) c.place_of.ensures) refl
