use Rattle.std.proofs.Common.{map}
use Rattle.std.proofs.lemmas.Result.{err_from_is_err_and}
use Rattle.elab_wires.specs.DriveViews.{drive_keyed}
use Rattle.elab_objects.specs.Driven.{driving_keyed}
use Rattle.driver_checks.proofs.CheckTurns.{part-turn, fault-from}
use Rattle.driver_checks.proofs.check.one_driver.Goals as goal

pub returns-in_err-check_part-clause-err : goal.returns-in_err-check_part-clause-err
returns-in_err-check_part-clause-err c =
    let p = err_from_is_err_and c.from_residual.result c.from_residual.ensures.1 in
    rw (p.1, p.2)
    (fault-from (map drive_keyed c.args.drives.now) (map driving_keyed c.args.driving.now) c.args.parts.now c.parts.part-index c.part-item.result c.in_err-check_part.field-0.0 c.parts-test.true
    c.part-item.is c.parts.invariant
    c.in_err-check_part.ensures.err)

pub parts-preserved : goal.parts-preserved
parts-preserved c =
    part-turn (map drive_keyed c.args.drives.now) (map driving_keyed c.args.driving.now) c.args.parts.now c.parts.part-index c.part-item.result c.parts-test.true c.part-item.is c.parts.invariant
    c.in_ok-check_part.ensures.ok
