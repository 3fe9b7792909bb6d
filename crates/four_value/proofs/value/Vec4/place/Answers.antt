use Rattle.std.proofs.Common.{arith, refl, ◌∙◌}
use Rattle.four_value.specs.Values.{with_part}
use Rattle.four_value.proofs.Views.{AreFields, fields_of, fields_fit, view_of}
use Rattle.four_value.proofs.Places.{place_fields, with_part-past}
use Rattle.four_value.proofs.value.Vec4.place.Goals as goal

pub returns-then-low-from : goal.returns-then-low-from
returns-then-low-from c =
    let f : AreFields c.args.self c.self.inside.width c.self.inside.ones c.self.inside.unknowns = fields_of c.self.inside c.args.self c.self.view_is c.self.invariant in
    c.self.view_is ∙ with_part-past c.args.self c.args.low c.args.part (omega (arith, f.wide, c.from.ensures, c.if-low-from.true))

pub invariant_of-result-2 : goal.invariant_of-result-2
invariant_of-result-2 c =
    let f : AreFields c.args.self c.self.inside.width c.self.inside.ones c.self.inside.unknowns = fields_of c.self.inside c.args.self c.self.view_is c.self.invariant in
    let g : AreFields c.args.part c.part.inside.width c.part.inside.ones c.part.inside.unknowns = fields_of c.part.inside c.args.part c.part.view_is c.part.invariant in
    let made : AreFields (with_part c.args.self c.args.low c.args.part) c.self.inside.width _ _
    = place_fields c.args.self c.args.part _ _ _ _ _ _ c.args.low _ _ _ f g c.self.invariant.1 c.mask.ensures c.mask-2.ensures refl in
    fields_fit _ _ _ _ made (c.self.invariant.0, c.self.invariant.1)

pub returns : goal.returns
returns c =
    let f : AreFields c.args.self c.self.inside.width c.self.inside.ones c.self.inside.unknowns = fields_of c.self.inside c.args.self c.self.view_is c.self.invariant in
    let g : AreFields c.args.part c.part.inside.width c.part.inside.ones c.part.inside.unknowns = fields_of c.part.inside c.args.part c.part.view_is c.part.invariant in
    let made : AreFields (with_part c.args.self c.args.low c.args.part) c.self.inside.width _ _
    = place_fields c.args.self c.args.part _ _ _ _ _ _ c.args.low _ _ _ f g c.self.invariant.1 c.mask.ensures c.mask-2.ensures refl in
    view_of _ _ _ _ made
