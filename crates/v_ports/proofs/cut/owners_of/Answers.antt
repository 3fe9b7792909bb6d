use Rattle.std.proofs.Common.{◌≡◌, ◌-◌, ◌+◌, ◌<◌, length, get_or, refl, sym, ap, ◌∙◌, arith, Option, Some}
use Rattle.v_design.specs.Expressions.{up_from}
use Rattle.v_ports.specs.declared.cut.Drive.{Drive}
use Rattle.v_ports.specs.Cuts.{first_owned, owned_after}
use Rattle.v_ports.proofs.Cutting.{none-yet, runs_of_drives, blank_drive, drive-taken, drive-twice, none-left-of}
use Rattle.v_ports.proofs.cut.owners_of.Goals as goal

pub drives-init : goal.drives-init
drives-init c = none-yet (runs_of_drives c.args.drives.now) c.in_ok-owners.owners.items c.args.width c.in_ok-owners.ensures.ok

pub returns-in-Some : goal.returns-in-Some
returns-in-Some c =
    let drive : Drive = get_or c.args.drives.now c.drives.place blank_drive in
    drive-twice c.args.drives.now c.drives.place c.args.width c.in-Some.bit c.drives.owners.items drive c.drives.invariant c.drives-test.true refl
    (sym (c.in-Some.ensures.first ∙ ap (λ os. first_owned os (up_from drive.low (drive.low + drive.width - drive.low))) c.deref.ensures.value))

pub drives-preserved : goal.drives-preserved
drives-preserved c =
    let drive : Drive = get_or c.args.drives.now c.drives.place blank_drive in
    let bits = up_from drive.low (drive.low + drive.width - drive.low) in
    drive-taken c.args.drives.now c.drives.place c.args.width c.drives.owners.items c.take_bits.new.owners.items drive c.drives.invariant c.drives-test.true refl
    (c.requires c.drives.place blank_drive c.drives-test.true) (sym (c.in_default.ensures.first ∙ ap (λ os. first_owned os bits) c.deref.ensures.value))
    (c.take_bits.ensures ∙ ap (λ n. owned_after n c.drives.owners.items bits) c.in_ok-number.ensures.ok)

pub returns : goal.returns
returns c = none-left-of c.args.drives.now c.drives.place c.args.width c.drives.owners.items c.drives.invariant (omega (arith, c.drives-test.false))
