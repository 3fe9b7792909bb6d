use Rattle.std.proofs.Common.{false}
use Rattle.four_value.specs.Values.{resized}
use Rattle.four_value.proofs.Views.{AreFields, fields_of, fields_fit, view_of}
use Rattle.four_value.proofs.Parts.{resize_fields}
use Rattle.four_value.proofs.value.Vec4.resize.Goals as goal

pub invariant_of-result : goal.invariant_of-result
invariant_of-result c =
    let f : AreFields c.args.self c.self.inside.width c.self.inside.ones c.self.inside.unknowns = fields_of c.self.inside c.args.self c.self.view_is c.self.invariant in
    let made : AreFields (resized false c.args.width c.args.self) c.args.width _ _ = resize_fields c.args.self _ _ _ c.args.width _ _ f c.mask.ensures c.mask-2.ensures in
    fields_fit _ _ _ _ made c.requires

pub returns : goal.returns
returns c =
    let f : AreFields c.args.self c.self.inside.width c.self.inside.ones c.self.inside.unknowns = fields_of c.self.inside c.args.self c.self.view_is c.self.invariant in
    let made : AreFields (resized false c.args.width c.args.self) c.args.width _ _ = resize_fields c.args.self _ _ _ c.args.width _ _ f c.mask.ensures c.mask-2.ensures in
    view_of _ _ _ _ made
