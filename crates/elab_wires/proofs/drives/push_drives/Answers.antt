use Rattle.std.proofs.Common.{◌≡◌, ◌+◌, ◌-◌, drop, ap, ◌∙◌, arith}
use Rattle.v_elab.specs.Drivers.{outermost, drives_width}
use Rattle.elab_parts.specs.PartViews.{places_of, drives_of, drive_of}
use Rattle.elab_wires.specs.DriveViews.{drives_listed}
use Rattle.elab_wires.proofs.DriveTurns.{width-here, drive-turn, drives-done}
use Rattle.elab_wires.proofs.drives.push_drives.Goals as goal

pub overflow_sub-offset : goal.overflow_sub-offset
overflow_sub-offset c = omega (
  arith,
  c.drives.invariant.offset,
  c.select_width-offset.ensures.bits,
  width-here c.args.drives.now c.drives.drive-index c.drive-item.result c.drives-test.true c.drive-item.is,
)

pub drives-preserved : goal.drives-preserved
drives-preserved c =
    let left : c.drives.offset - c.select_width-offset.result ≡ drives_width (drives_of (drop (c.drives.drive-index + 1) c.args.drives.now)) =
    omega (arith, c.drives.invariant.offset, c.select_width-offset.ensures.bits, width-here c.args.drives.now c.drives.drive-index c.drive-item.result c.drives-test.true c.drive-item.is) in
    record {
      offset = left;
      few = omega (arith, c.drives.invariant.few);
      listed =
          drive-turn c.args.signals.now c.args.node c.args.drives.now c.drives.drive-index c.drive-item.result _ c.drives.items.items c.push.new.self.items _ c.drives-test.true c.drive-item.is
          c.drives.invariant.listed c.in_ok-push.ensures.items (c.outermost.ensures ∙ ap (outermost c.args.signals.now) c.as_bytes.ensures)
          (ap (λ n. record { node = c.args.node; offset = n; places = places_of c.drive-item.result.bits; place = (drive_of c.drive-item.result).place }) left);
    }

pub returns : goal.returns
returns c = drives-done c.args.signals.now c.args.node c.args.drives.now c.drives.drive-index (drives_listed c.drives.items.items) _ c.drives-test.false c.drives.invariant.listed
