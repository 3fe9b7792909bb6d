use Rattle.std.proofs.Common.{◌∙◌, sym}
use Rattle.std.proofs.lemmas.Bool.{ne_eqb}
use Rattle.four_value.proofs.Views.{AreFields, fields_of}
use Rattle.four_value.proofs.Readings.{reduced-xor_unknown, reduced-xor_known}
use Rattle.four_value.proofs.value.Vec4.reduce_xor.Goals as goal

pub returns-then-self-ne0 : goal.returns-then-self-ne0
returns-then-self-ne0 c =
    let f : AreFields c.args.self c.self.inside.width c.self.inside.ones c.self.inside.unknowns = fields_of c.self.inside c.args.self c.self.view_is c.self.invariant in
    reduced-xor_unknown c.args.self (λ e. c.if-self-ne0.true (f.in_unknowns ∙ e))

pub returns-then-self-eq1 : goal.returns-then-self-eq1
returns-then-self-eq1 c =
    let f : AreFields c.args.self c.self.inside.width c.self.inside.ones c.self.inside.unknowns = fields_of c.self.inside c.args.self c.self.view_is c.self.invariant in
    rw (← reduced-xor_known c.args.self c.self.inside.ones (sym f.in_unknowns ∙ c.if-self-ne0.false) f.in_ones, c.if-self-eq1.true)

pub returns-else-self-eq1 : goal.returns-else-self-eq1
returns-else-self-eq1 c =
    let f : AreFields c.args.self c.self.inside.width c.self.inside.ones c.self.inside.unknowns = fields_of c.self.inside c.args.self c.self.view_is c.self.invariant in
    rw (← reduced-xor_known c.args.self c.self.inside.ones (sym f.in_unknowns ∙ c.if-self-ne0.false) f.in_ones, ne_eqb _ _ c.if-self-eq1.false)
