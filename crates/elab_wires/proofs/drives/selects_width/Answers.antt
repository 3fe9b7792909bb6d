use Rattle.std.proofs.Common.{arith}
use Rattle.elab_wires.proofs.DriveTurns.{width-here, width-done}
use Rattle.elab_wires.proofs.drives.selects_width.Goals as goal

pub drives-preserved : goal.drives-preserved
drives-preserved c = record {
  few = omega (arith, c.drives.invariant.few, c.select_width-width.ensures.few);
  left = omega (
    arith,
    c.drives.invariant.left,
    c.select_width-width.ensures.bits,
    width-here c.args.drives.now c.drives.drive-index c.drive-item.result c.drives-test.true c.drive-item.is,
  );
}

pub returns-clause-bits : goal.returns-clause-bits
returns-clause-bits c = width-done c.args.drives.now c.drives.drive-index c.drives.width c.drives-test.false c.drives.invariant.left
