use Rattle.std.proofs.Common.{◌≡◌, length, map, ap, ◌∙◌, arith}
use Rattle.v_ports.specs.Pieces.{run_of_drive}
use Rattle.v_ports.specs.Cuts.{drive_of}
use Rattle.v_ports.proofs.Cutting.{owners-short, pieces-give}
use Rattle.v_ports.proofs.cut.pieces.Goals as goal

pub runs_of-requires : goal.runs_of-requires
runs_of-requires c =
    let long : length c.deref.result.now ≡ c.args.width = ap length c.deref.ensures.value ∙ owners-short
    (map run_of_drive (map drive_of c.args.drives.now)) c.args.width c.in_ok-owners.owners.items c.in_ok-owners.ensures.1 in
    omega arith

pub returns : goal.returns
returns c =
    pieces-give c.args.width (map drive_of c.args.drives.now) c.deref.result.now c.runs_of.result c.in_ok-owners.ensures.0 (c.deref.ensures.value ∙ c.in_ok-owners.ensures.1) c.runs_of.ensures.ok
    c.runs_of.ensures.err
