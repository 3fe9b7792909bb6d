use Rattle.four_value.specs.Values.{xor_value}
use Rattle.four_value.proofs.Views.{AreFields, fields_of, fields_fit, view_of}
use Rattle.four_value.proofs.Bitwise.{xor_fields}
use Rattle.four_value.proofs.value.Vec4.xor.Goals as goal

pub invariant_of-result : goal.invariant_of-result
invariant_of-result c =
    let f : AreFields c.args.self c.self.inside.width c.self.inside.ones c.self.inside.unknowns = fields_of c.self.inside c.args.self c.self.view_is c.self.invariant in
    let g : AreFields c.args.other c.other.inside.width c.other.inside.ones c.other.inside.unknowns = fields_of c.other.inside c.args.other c.other.view_is c.other.invariant in
    let made : AreFields (xor_value c.args.self c.args.other) c.self.inside.width _ _
    = xor_fields c.args.self c.args.other c.self.inside.width c.other.inside.width _ _ _ _ f g c.requires c.self.invariant.1 in
    fields_fit _ _ _ _ made (c.self.invariant.0, c.self.invariant.1)

pub returns : goal.returns
returns c =
    let f : AreFields c.args.self c.self.inside.width c.self.inside.ones c.self.inside.unknowns = fields_of c.self.inside c.args.self c.self.view_is c.self.invariant in
    let g : AreFields c.args.other c.other.inside.width c.other.inside.ones c.other.inside.unknowns = fields_of c.other.inside c.args.other c.other.view_is c.other.invariant in
    let made : AreFields (xor_value c.args.self c.args.other) c.self.inside.width _ _
    = xor_fields c.args.self c.args.other c.self.inside.width c.other.inside.width _ _ _ _ f g c.requires c.self.invariant.1 in
    view_of _ _ _ _ made
