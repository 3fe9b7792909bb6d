use Rattle.std.proofs.Common.{◌≡◌, ◌-◌, length, arith, ap, ◌∙◌}
use Rattle.four_value.specs.Values.{bit_at}
use Rattle.four_value.proofs.Views.{AreFields, fields_of}
use Rattle.four_value.proofs.Parts.{bit_at-top}
use Rattle.four_value.proofs.value.Vec4.top.Goals as goal

pub returns : goal.returns
returns c =
    let f : AreFields c.args.self c.self.inside.width c.self.inside.ones c.self.inside.unknowns = fields_of c.self.inside c.args.self c.self.view_is c.self.invariant in
    let place : c.from.result - 1 ≡ length c.args.self - 1 = omega (arith, c.from.ensures, f.wide) in
    c.bit.ensures ∙ ap (bit_at c.args.self) place ∙ bit_at-top c.args.self (omega (arith, f.wide, c.self.invariant.0))
