use Rattle.std.proofs.Common.{map, ap, ◌∙◌}
use Rattle.v_ports.specs.Cuts.{drive_of}
use Rattle.elab_objects.proofs.Places.{never-twice, pieces-given}
use Rattle.elab_objects.proofs.pieces.cut.Goals as goal

pub unreachable-requires : goal.unreachable-requires
unreachable-requires c =
    never-twice c.args.width c.args.drives.now c.pieces.result (map drive_of c.deref.result.now) c.in-Err-TwoDrivers.field-0 c.in-Err-TwoDrivers.field-0-0 c.in-Err-TwoDrivers.field-0-1 c.requires
    (ap (map drive_of) c.deref.ensures.value ∙ c.in_ok-left.ensures.listed) c.in-Err-TwoDrivers.is c.in-Err-TwoDrivers.field-0-is c.pieces.ensures

pub returns-in-Ok : goal.returns-in-Ok
returns-in-Ok c =
    pieces-given c.args.width c.args.drives.now c.in-Ok.cut c.pieces.result (map drive_of c.deref.result.now) c.requires
    (ap (map drive_of) c.deref.ensures.value ∙ c.in_ok-left.ensures.listed) c.in-Ok.is c.pieces.ensures
