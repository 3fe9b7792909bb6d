use Rattle.std.proofs.Common.{Some, None}
use Rattle.elab_objects.proofs.Places.{driver-none, driver-of}
use Rattle.elab_objects.proofs.pieces.piece_driver.Goals as goal

pub returns-then-drives-number : goal.returns-then-drives-number
returns-then-drives-number c =
    driver-none c.args.drives.now c.args.piece.low c.in-Some.number c.args.piece.driver c.in-Some.is c.if-drives-number.true

pub returns-in-None : goal.returns-in-None
returns-in-None c =
    driver-of c.args.drives.now c.args.piece.low c.in-Some.number c.args.piece.driver c.index-drives-number.result None c.in-Some.is c.if-drives-number.false c.index-drives-number.is
    c.in-None.ensures

pub returns-in-Some-value_place : goal.returns-in-Some-value_place
returns-in-Some-value_place c =
    driver-of c.args.drives.now c.args.piece.low c.in-Some.number c.args.piece.driver c.index-drives-number.result (Some c.in-Some-value_place.place) c.in-Some.is c.if-drives-number.false
    c.index-drives-number.is c.in-Some-value_place.ensures
