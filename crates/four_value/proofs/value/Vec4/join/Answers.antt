use Rattle.std.proofs.Common.{arith}
use Rattle.four_value.proofs.Views.{AreFields, fields_of}
use Rattle.four_value.proofs.value.Vec4.join.Goals as goal

pub returns-then-width-gt128 : goal.returns-then-width-gt128
returns-then-width-gt128 c =
    let f : AreFields c.args.self c.self.inside.width c.self.inside.ones c.self.inside.unknowns = fields_of c.self.inside c.args.self c.self.view_is c.self.invariant in
    let g : AreFields c.args.low c.low.inside.width c.low.inside.ones c.low.inside.unknowns = fields_of c.low.inside c.args.low c.low.view_is c.low.invariant in
    (omega (arith, f.wide, g.wide), omega (arith, f.wide, g.wide))

pub above-requires : goal.above-requires
above-requires c =
    let f : AreFields c.args.self c.self.inside.width c.self.inside.ones c.self.inside.unknowns = fields_of c.self.inside c.args.self c.self.view_is c.self.invariant in
    let g : AreFields c.args.low c.low.inside.width c.low.inside.ones c.low.inside.unknowns = fields_of c.low.inside c.args.low c.low.view_is c.low.invariant in
    omega (arith, f.wide, g.wide)
