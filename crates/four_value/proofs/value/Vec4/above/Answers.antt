use Rattle.std.proofs.Common.{arith, ◌+◌, ◌≤◌}
use Rattle.four_value.specs.Values.{joined_to}
use Rattle.four_value.proofs.Views.{AreFields, fields_of, fields_fit, view_of}
use Rattle.four_value.proofs.Parts.{join_fields}
use Rattle.four_value.proofs.value.Vec4.above.Goals as goal

pub invariant_of-result : goal.invariant_of-result
invariant_of-result c =
    let f : AreFields c.args.self c.self.inside.width c.self.inside.ones c.self.inside.unknowns = fields_of c.self.inside c.args.self c.self.view_is c.self.invariant in
    let g : AreFields c.args.low c.low.inside.width c.low.inside.ones c.low.inside.unknowns = fields_of c.low.inside c.args.low c.low.view_is c.low.invariant in
    let room : c.self.inside.width + c.low.inside.width ≤ 128 = omega (arith, f.wide, g.wide, c.requires) in
    let made : AreFields (joined_to c.args.self c.args.low) _ _ _ = join_fields c.args.self c.args.low _ _ _ _ _ _ f g room in
    fields_fit _ _ _ _ made (omega (arith, c.self.invariant.0), room)

pub returns : goal.returns
returns c =
    let f : AreFields c.args.self c.self.inside.width c.self.inside.ones c.self.inside.unknowns = fields_of c.self.inside c.args.self c.self.view_is c.self.invariant in
    let g : AreFields c.args.low c.low.inside.width c.low.inside.ones c.low.inside.unknowns = fields_of c.low.inside c.args.low c.low.view_is c.low.invariant in
    let room : c.self.inside.width + c.low.inside.width ≤ 128 = omega (arith, f.wide, g.wide, c.requires) in
    let made : AreFields (joined_to c.args.self c.args.low) _ _ _ = join_fields c.args.self c.args.low _ _ _ _ _ _ f g room in
    view_of _ _ _ _ made
