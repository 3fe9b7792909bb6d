use Rattle.std.proofs.Common.{arith, ap₂, ◌-◌, ◌^◌, ◌≤◌, length, ◌∙◌}
use Rattle.std.specs.Int.Bits.{bit_and}
use Rattle.four_value.proofs.Views.{AreFields, fields_of}
use Rattle.four_value.proofs.Bitwise.{surely_one-plane}
use Rattle.four_value.proofs.value.Vec4.surely_one.Goals as goal

pub returns : goal.returns
returns c =
    let f : AreFields c.args.self c.self.inside.width c.self.inside.ones c.self.inside.unknowns = fields_of c.self.inside c.args.self c.self.view_is c.self.invariant in
    let narrow : length c.args.self ≤ 128 = omega (arith, f.wide) in
    ap₂ (λ m n. bit_and m (2 ^ 128 - 1 - n)) f.in_ones f.in_unknowns ∙ surely_one-plane c.args.self narrow
