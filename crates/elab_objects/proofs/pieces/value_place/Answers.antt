use Rattle.std.proofs.Common.{◌+◌, inl, inr, arith}
use Rattle.elab_objects.proofs.Places.{placed, no_place}
use Rattle.elab_objects.proofs.pieces.value_place.Goals as goal
use Rattle.elab_objects.proofs.pieces.value_place.Goals.{then-bit-bits-via-then-bit-bits, then-bit-bits-via-else-bit-bits+then-bits-bit}

pub returns-then-bit-bits : goal.returns-then-bit-bits
returns-then-bit-bits c =
    elim c.then-bit-bits.branch [
      | then-bit-bits-via-then-bit-bits w ↦ no_place c.args.drive c.args.bit (inl (let h = w.if-bit-bits.true in let f = c.from-bit.ensures in omega (arith, h, f)))
      | then-bit-bits-via-else-bit-bits+then-bits-bit w ↦ no_place c.args.drive c.args.bit (inr (let h = w.if-bits-bit.true in let f = c.from-bit.ensures in omega (arith, h, f)))
    ]

pub returns : goal.returns
returns c = placed c.args.drive c.args.bit (c.args.drive.offset + c.from-within.result) (let h = c.if-bit-bits.false in let f = c.from-bit.ensures in omega (arith, h, f))
    (let h = c.if-bits-bit.false in let f = c.from-bit.ensures in omega (arith, h, f)) (let h = c.from-within.ensures in let f = c.from-bit.ensures in omega (arith, h, f))
