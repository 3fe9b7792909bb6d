use Rattle.std.proofs.Common.{arith}
use Rattle.four_value.proofs.Views.{AreFields, fields_of}
use Rattle.four_value.proofs.value.Vec4.width.Goals as goal

pub returns-clause-bits : goal.returns-clause-bits
returns-clause-bits c =
    let f : AreFields c.args.self c.self.inside.width c.self.inside.ones c.self.inside.unknowns = fields_of c.self.inside c.args.self c.self.view_is c.self.invariant in
    f.wide

pub returns-clause-in_range : goal.returns-clause-in_range
returns-clause-in_range c =
    let f : AreFields c.args.self c.self.inside.width c.self.inside.ones c.self.inside.unknowns = fields_of c.self.inside c.args.self c.self.view_is c.self.invariant in
    (omega (arith, f.wide, c.self.invariant.0), omega (arith, f.wide, c.self.invariant.1))
