use Rattle.std.proofs.Common.{◌∙◌, ⊎_elim}
use Rattle.std.proofs.lemmas.Bool.{ne_eqb}
use Rattle.std.proofs.lemmas.Bool.Decides.{eqb_tells}
use Rattle.four_value.proofs.Views.{AreFields, fields_of}
use Rattle.four_value.proofs.Readings.{same_fields, other_ones, other_unknowns}
use Rattle.four_value.proofs.value.Vec4.same.Goals as goal

pub returns-then-self-other : goal.returns-then-self-other
returns-then-self-other c =
    let f : AreFields c.args.self c.self.inside.width c.self.inside.ones c.self.inside.unknowns = fields_of c.self.inside c.args.self c.self.view_is c.self.invariant in
    let g : AreFields c.args.other c.other.inside.width c.other.inside.ones c.other.inside.unknowns = fields_of c.other.inside c.args.other c.other.view_is c.other.invariant in
    ⊎_elim
    (λ t. t.0 ∙ same_fields c.args.self c.args.other _ _ _ _ _ _ f g c.requires c.if-self-other.true t.1)
    (λ t. t.0 ∙ other_unknowns c.args.self c.args.other _ _ _ _ _ _ f g t.1)
    (eqb_tells c.self.inside.unknowns c.other.inside.unknowns)

pub returns-else-self-other : goal.returns-else-self-other
returns-else-self-other c =
    let f : AreFields c.args.self c.self.inside.width c.self.inside.ones c.self.inside.unknowns = fields_of c.self.inside c.args.self c.self.view_is c.self.invariant in
    let g : AreFields c.args.other c.other.inside.width c.other.inside.ones c.other.inside.unknowns = fields_of c.other.inside c.args.other c.other.view_is c.other.invariant in
    ne_eqb c.self.inside.ones c.other.inside.ones c.if-self-other.false ∙ other_ones c.args.self c.args.other _ _ _ _ _ _ f g c.if-self-other.false
