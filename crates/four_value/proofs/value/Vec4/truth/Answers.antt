use Rattle.std.proofs.Common.{◌≡◌, true, false, sym, ◌∙◌}
use Rattle.four_value.specs.Bits.{is_one, is_unknown}
use Rattle.four_value.specs.Values.{some_bit}
use Rattle.four_value.proofs.Views.{AreFields, fields_of}
use Rattle.four_value.proofs.Readings.{some_bit-true, some_bit-false}
use Rattle.four_value.proofs.value.Vec4.truth.Goals as goal

pub returns-then-surely_one-ne0 : goal.returns-then-surely_one-ne0
returns-then-surely_one-ne0 c =
    let e : some_bit is_one c.args.self ≡ true = some_bit-true is_one c.args.self (λ d. c.if-surely_one-ne0.true (c.surely_one.ensures ∙ d)) in
    rw e

pub returns-then-self-ne0 : goal.returns-then-self-ne0
returns-then-self-ne0 c =
    let f : AreFields c.args.self c.self.inside.width c.self.inside.ones c.self.inside.unknowns = fields_of c.self.inside c.args.self c.self.view_is c.self.invariant in
    let e : some_bit is_one c.args.self ≡ false = some_bit-false is_one c.args.self (sym c.surely_one.ensures ∙ c.if-surely_one-ne0.false) in
    let d : some_bit is_unknown c.args.self ≡ true = some_bit-true is_unknown c.args.self (λ z. c.if-self-ne0.true (f.in_unknowns ∙ z)) in
    rw (e, d)

pub returns-else-self-ne0 : goal.returns-else-self-ne0
returns-else-self-ne0 c =
    let f : AreFields c.args.self c.self.inside.width c.self.inside.ones c.self.inside.unknowns = fields_of c.self.inside c.args.self c.self.view_is c.self.invariant in
    let e : some_bit is_one c.args.self ≡ false = some_bit-false is_one c.args.self (sym c.surely_one.ensures ∙ c.if-surely_one-ne0.false) in
    let d : some_bit is_unknown c.args.self ≡ false = some_bit-false is_unknown c.args.self (sym f.in_unknowns ∙ c.if-self-ne0.false) in
    rw (e, d)
