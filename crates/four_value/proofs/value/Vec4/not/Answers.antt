use Rattle.four_value.specs.Values.{not_value}
use Rattle.four_value.proofs.Views.{AreFields, fields_of, fields_fit, view_of}
use Rattle.four_value.proofs.Bitwise.{not_fields}
use Rattle.four_value.proofs.value.Vec4.not.Goals as goal

pub invariant_of-result : goal.invariant_of-result
invariant_of-result c =
    let f : AreFields c.args.self c.self.inside.width c.self.inside.ones c.self.inside.unknowns = fields_of c.self.inside c.args.self c.self.view_is c.self.invariant in
    let made : AreFields (not_value c.args.self) c.self.inside.width _ _
    = not_fields c.args.self c.self.inside.width _ _ _ _ f c.maybe_one-maybe.ensures c.mask.ensures in
    fields_fit _ _ _ _ made (c.self.invariant.0, c.self.invariant.1)

pub returns : goal.returns
returns c =
    let f : AreFields c.args.self c.self.inside.width c.self.inside.ones c.self.inside.unknowns = fields_of c.self.inside c.args.self c.self.view_is c.self.invariant in
    let made : AreFields (not_value c.args.self) c.self.inside.width _ _
    = not_fields c.args.self c.self.inside.width _ _ _ _ f c.maybe_one-maybe.ensures c.mask.ensures in
    view_of _ _ _ _ made
