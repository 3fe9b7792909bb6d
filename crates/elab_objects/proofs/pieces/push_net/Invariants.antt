use Rattle.std.proofs.Common.{◌≡◌, ◌++◌, take, map}
use Rattle.v_ports.specs.Cuts.{piece_of}
use Rattle.v_elab.specs.Objects as plain
use Rattle.elab_parts.specs.PartViews.{signal_of}
use Rattle.elab_wires.specs.DriveViews.{object_drive_of}
use Rattle.elab_objects.specs.ObjectViews.{held_objects}
use Rattle.elab_objects.proofs.pieces.push_net.Given as goal

abbrev pub invariant-pieces : goal.invariant-pieces
invariant-pieces l = held_objects l.objects.items ≡ held_objects l.initial.objects.items ++ map (plain.piece_object (signal_of l.signal) (map object_drive_of l.drives))
    (map piece_of (take l.piece-index l.piece-items))
