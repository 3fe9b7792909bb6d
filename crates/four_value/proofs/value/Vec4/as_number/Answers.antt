use Rattle.std.proofs.Common.{ap, sym, Some, ◌∙◌}
use Rattle.four_value.proofs.Views.{AreFields, fields_of}
use Rattle.four_value.proofs.Readings.{number_of-known, number_of-unknown}
use Rattle.four_value.proofs.value.Vec4.as_number.Goals as goal

pub returns-then-self-eq0 : goal.returns-then-self-eq0
returns-then-self-eq0 c =
    let f : AreFields c.args.self c.self.inside.width c.self.inside.ones c.self.inside.unknowns = fields_of c.self.inside c.args.self c.self.view_is c.self.invariant in
    ap Some f.in_ones ∙ sym (number_of-known c.args.self (sym f.in_unknowns ∙ c.if-self-eq0.true))

pub returns-else-self-eq0 : goal.returns-else-self-eq0
returns-else-self-eq0 c =
    let f : AreFields c.args.self c.self.inside.width c.self.inside.ones c.self.inside.unknowns = fields_of c.self.inside c.args.self c.self.view_is c.self.invariant in
    sym (number_of-unknown c.args.self (λ e. c.if-self-eq0.false (f.in_unknowns ∙ e)))
