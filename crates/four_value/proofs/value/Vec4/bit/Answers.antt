use Rattle.std.proofs.Common.{arith, sym, ◌∙◌}
use Rattle.std.proofs.lemmas.List.{get_or_past}
use Rattle.four_value.specs.declared.logic.Bit.TheVariants.{X}
use Rattle.four_value.proofs.Views.{AreFields, fields_of}
use Rattle.four_value.proofs.Parts.{bit_at-planes}
use Rattle.four_value.proofs.value.Vec4.bit.Goals as goal

pub returns-then-place-from : goal.returns-then-place-from
returns-then-place-from c =
    let f : AreFields c.args.self c.self.inside.width c.self.inside.ones c.self.inside.unknowns = fields_of c.self.inside c.args.self c.self.view_is c.self.invariant in
    sym (get_or_past c.args.self c.args.place X (omega (arith, f.wide, c.from.ensures, c.if-place-from.true)))

pub returns : goal.returns
returns c =
    let f : AreFields c.args.self c.self.inside.width c.self.inside.ones c.self.inside.unknowns = fields_of c.self.inside c.args.self c.self.view_is c.self.invariant in
    c.bit_of_digits.ensures ∙ bit_at-planes c.args.self _ _ _ c.args.place f (omega (arith, c.from.ensures, c.if-place-from.false))
