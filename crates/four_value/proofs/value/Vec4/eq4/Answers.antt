use Rattle.four_value.proofs.Views.{AreFields, fields_of}
use Rattle.four_value.proofs.Readings.{equality-zero, equality-x, equality-one}
use Rattle.four_value.proofs.value.Vec4.eq4.Goals as goal

pub returns-then-self-other-ne0 : goal.returns-then-self-other-ne0
returns-then-self-other-ne0 c =
    let f : AreFields c.args.self c.self.inside.width c.self.inside.ones c.self.inside.unknowns = fields_of c.self.inside c.args.self c.self.view_is c.self.invariant in
    let g : AreFields c.args.other c.other.inside.width c.other.inside.ones c.other.inside.unknowns = fields_of c.other.inside c.args.other c.other.view_is c.other.invariant in
    equality-zero c.args.self c.args.other c.self.inside.width c.other.inside.width _ _ _ _ f g c.requires c.self.invariant.1 c.if-self-other-ne0.true

pub returns-then-unknowns-ne0 : goal.returns-then-unknowns-ne0
returns-then-unknowns-ne0 c =
    let f : AreFields c.args.self c.self.inside.width c.self.inside.ones c.self.inside.unknowns = fields_of c.self.inside c.args.self c.self.view_is c.self.invariant in
    let g : AreFields c.args.other c.other.inside.width c.other.inside.ones c.other.inside.unknowns = fields_of c.other.inside c.args.other c.other.view_is c.other.invariant in
    equality-x c.args.self c.args.other c.self.inside.width c.other.inside.width _ _ _ _ f g c.requires c.self.invariant.1 c.if-self-other-ne0.false c.if-unknowns-ne0.true

pub returns-else-unknowns-ne0 : goal.returns-else-unknowns-ne0
returns-else-unknowns-ne0 c =
    let f : AreFields c.args.self c.self.inside.width c.self.inside.ones c.self.inside.unknowns = fields_of c.self.inside c.args.self c.self.view_is c.self.invariant in
    let g : AreFields c.args.other c.other.inside.width c.other.inside.ones c.other.inside.unknowns = fields_of c.other.inside c.args.other c.other.view_is c.other.invariant in
    equality-one c.args.self c.args.other c.self.inside.width c.other.inside.width _ _ _ _ f g c.requires c.self.invariant.1 c.if-self-other-ne0.false c.if-unknowns-ne0.false
