use Rattle.four_value.specs.Values.{or_value}
use Rattle.four_value.proofs.Views.{AreFields, fields_of, fields_fit, view_of}
use Rattle.four_value.proofs.Bitwise.{or_fields}
use Rattle.four_value.proofs.value.Vec4.or.Goals as goal

pub invariant_of-result : goal.invariant_of-result
invariant_of-result c =
    let f : AreFields c.args.self c.self.inside.width c.self.inside.ones c.self.inside.unknowns = fields_of c.self.inside c.args.self c.self.view_is c.self.invariant in
    let made : AreFields (or_value c.args.self c.args.other) c.self.inside.width _ _
    = or_fields c.args.self c.args.other c.self.inside.width _ _ _ _ f.wide c.requires c.surely_one.ensures c.surely_one-2.ensures c.maybe_one.ensures c.maybe_one-2.ensures in
    fields_fit _ _ _ _ made (c.self.invariant.0, c.self.invariant.1)

pub returns : goal.returns
returns c =
    let f : AreFields c.args.self c.self.inside.width c.self.inside.ones c.self.inside.unknowns = fields_of c.self.inside c.args.self c.self.view_is c.self.invariant in
    let made : AreFields (or_value c.args.self c.args.other) c.self.inside.width _ _
    = or_fields c.args.self c.args.other c.self.inside.width _ _ _ _ f.wide c.requires c.surely_one.ensures c.surely_one-2.ensures c.maybe_one.ensures c.maybe_one-2.ensures in
    view_of _ _ _ _ made
