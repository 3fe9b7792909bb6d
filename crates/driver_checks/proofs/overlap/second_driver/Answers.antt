use Rattle.std.proofs.Common.{flat_map, sym, ap, ◌∙◌}
use Rattle.v_ports.specs.Pieces.{least_among}
use Rattle.driver_checks.specs.Overlaps.{bits_of}
use Rattle.driver_checks.proofs.OverlapTurns.{overlap-here, none-here, none-left}
use Rattle.driver_checks.proofs.overlap.second_driver.Goals as goal

pub returns-in-Some : goal.returns-in-Some
returns-in-Some c =
    overlap-here (flat_map bits_of c.drives.taken.items) c.args.drives.now c.drives.drive-index c.drive-item.result c.in-Some.bit _ c.drives-test.true c.drive-item.is c.drives.invariant
    (c.in-Some.ensures ∙ ap (λ taken. least_among (flat_map bits_of taken) (bits_of c.drive-item.result.bits)) c.deref.ensures.value)

pub drives-preserved : goal.drives-preserved
drives-preserved c =
    none-here (flat_map bits_of c.drives.taken.items) (flat_map bits_of c.take_bits.new.taken.items) c.args.drives.now c.drives.drive-index c.drive-item.result _ c.drives-test.true c.drive-item.is
    c.drives.invariant
    (c.in_default.ensures ∙ ap (λ taken. least_among (flat_map bits_of taken) (bits_of c.drive-item.result.bits)) c.deref.ensures.value) c.in_ok-take_bits.ensures
