use Rattle.std.proofs.Common.{[], ◌∷◌, ◌++◌, None, map, ap, ◌∙◌, arith}
use Rattle.std.proofs.lemmas.List.{map_push}
use Rattle.v_elab.specs.Objects as plain
use Rattle.elab_parts.specs.PartViews.{signal_of}
use Rattle.elab_objects.specs.ObjectViews.{held_of, held_objects}
use Rattle.v_ports.specs.Cuts.{piece_of}
use Rattle.v_elab.specs.Drivers.{run_of}
use Rattle.elab_wires.specs.DriveViews.{object_drive_of}
use Rattle.elab_objects.proofs.Places.{piece-ends, pieces-turn}
use Rattle.elab_objects.proofs.pieces.push_net.Goals as goal

pub piece_object-requires-clause-some : goal.piece_object-requires-clause-some
piece_object-requires-clause-some c =
    (piece-ends c.width.result (map run_of (map object_drive_of c.args.drives.now)) c.deref-piece-items.result.now c.pieces.piece-index (record { low = 0; width = 0; driver = None })
    (ap (map piece_of) c.deref-piece-items.ensures.value ∙ c.in_ok-cut.ensures) c.pieces-test.true).0

pub piece_object-requires-clause-within : goal.piece_object-requires-clause-within
piece_object-requires-clause-within c =
    let ends = piece-ends c.width.result (map run_of (map object_drive_of c.args.drives.now)) c.deref-piece-items.result.now c.pieces.piece-index (record { low = 0; width = 0; driver = None })
    (ap (map piece_of) c.deref-piece-items.ensures.value ∙ c.in_ok-cut.ensures) c.pieces-test.true in
    let end = ends.1 in
    let whole = c.width.ensures in
    omega (arith, end, whole)

pub pieces-preserved : goal.pieces-preserved
pieces-preserved c =
    pieces-turn (plain.piece_object (signal_of c.args.signal.now) (map object_drive_of c.args.drives.now)) c.deref-piece-items.result.now c.pieces.piece-index
    (record { low = 0; width = 0; driver = None })
    (held_objects c.args.objects.now.items) (held_objects c.pieces.objects.items) (held_objects c.push.new.self.items) c.pieces-test.true c.pieces.invariant
    (ap held_objects c.in_ok-push.ensures.items ∙ (map_push held_of c.pieces.objects.items c.in_ok-object.object ∙ ap (λ o. held_objects c.pieces.objects.items ++ o ∷ []) c.in_ok-object.ensures))
