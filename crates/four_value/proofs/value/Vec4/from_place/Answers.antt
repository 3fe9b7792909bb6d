use Rattle.std.proofs.Common.{arith, drop}
use Rattle.four_value.proofs.Views.{AreFields, fields_of, fields_fit, view_of}
use Rattle.four_value.proofs.Parts.{drop_fields}
use Rattle.four_value.proofs.value.Vec4.from_place.Goals as goal

pub overflow_sub-result : goal.overflow_sub-result
overflow_sub-result c =
    let f : AreFields c.args.self c.self.inside.width c.self.inside.ones c.self.inside.unknowns = fields_of c.self.inside c.args.self c.self.view_is c.self.invariant in
    omega (arith, f.wide, c.requires)

pub invariant_of-result : goal.invariant_of-result
invariant_of-result c =
    let f : AreFields c.args.self c.self.inside.width c.self.inside.ones c.self.inside.unknowns = fields_of c.self.inside c.args.self c.self.view_is c.self.invariant in
    let made : AreFields (drop c.args.low c.args.self) _ _ _ = drop_fields c.args.self _ _ _ c.args.low f in
    fields_fit _ _ _ _ made (omega (arith, f.wide, c.requires), omega (arith, f.wide, c.requires))

pub returns : goal.returns
returns c =
    let f : AreFields c.args.self c.self.inside.width c.self.inside.ones c.self.inside.unknowns = fields_of c.self.inside c.args.self c.self.view_is c.self.invariant in
    let made : AreFields (drop c.args.low c.args.self) _ _ _ = drop_fields c.args.self _ _ _ c.args.low f in
    view_of _ _ _ _ made
