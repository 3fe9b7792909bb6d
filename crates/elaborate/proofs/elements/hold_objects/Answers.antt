use Rattle.std.proofs.Common.{map, sym, ap, subst, ◌∙◌}
use Rattle.elab_parts.specs.PartViews.{parts_of}
use Rattle.elab_parts.specs.BehaviourViews.{node_of}
use Rattle.elab_wires.specs.DriveViews.{drive_keyed}
use Rattle.elab_objects.specs.Driven.{driving_keyed}
use Rattle.elaborate.specs.ElabFaults.{refusal_of, IsTold}
use Rattle.elaborate.proofs.Drives.{are-drives, two-by, driven-by, held-by}
use Rattle.elaborate.proofs.elements.hold_objects.Goals as goal

pub returns-in-Err : goal.returns-in-Err
returns-in-Err c =
    let parts = parts_of c.args.parts.now in
    let nodes = map node_of c.args.nodes.now in
    let are = are-drives parts nodes c.args.signals.now _ _ c.requires.signals (ap (map drive_keyed) c.in_ok-drives.ensures ∙ c.in_ok-list_drives.ensures)
    (ap (map driving_keyed) c.in_ok-driving.ensures ∙ c.in_ok-list_driving.ensures) in
    subst (λ two. IsTold two (refusal_of c.driver_fault.result)) (two-by parts nodes _ _ are) (c.driver_fault.ensures _ c.in-Err.ensures.err)

pub objects_of_parts-requires : goal.objects_of_parts-requires
objects_of_parts-requires c =
    let parts = parts_of c.args.parts.now in
    let nodes = map node_of c.args.nodes.now in
    let are = are-drives parts nodes c.args.signals.now _ _ c.requires.signals (ap (map drive_keyed) c.in_ok-drives.ensures ∙ c.in_ok-list_drives.ensures)
    (ap (map driving_keyed) c.in_ok-driving.ensures ∙ c.in_ok-list_driving.ensures) in
    driven-by parts nodes _ _ are (sym (two-by parts nodes _ _ are) ∙ c.in-Ok.ensures.ok)

pub returns : goal.returns
returns c =
    let parts = parts_of c.args.parts.now in
    let nodes = map node_of c.args.nodes.now in
    let are = are-drives parts nodes c.args.signals.now _ _ c.requires.signals (ap (map drive_keyed) c.in_ok-drives.ensures ∙ c.in_ok-list_drives.ensures)
    (ap (map driving_keyed) c.in_ok-driving.ensures ∙ c.in_ok-list_driving.ensures) in
    (sym (two-by parts nodes _ _ are) ∙ c.in-Ok.ensures.ok, c.in_ok-held-in-Ok.ensures ∙ held-by parts nodes _ _ are)
