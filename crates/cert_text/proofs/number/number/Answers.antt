use Rattle.std.proofs.Common.{sym, ◌∙◌}
use Rattle.std.proofs.lemmas.Bool.{eqb-true, eqb-false}
use Rattle.cert_text.proofs.Numbers.{none-empty, none-long, none-zero, none-front, number-last}
use Rattle.cert_text.proofs.number.number.Goals as goal

pub returns-in_default : goal.returns-in_default
returns-in_default c = none-empty c.args.word.now c.in_default.ensures.cases

pub returns-then-front-gt19 : goal.returns-then-front-gt19
returns-then-front-gt19 c = none-long c.args.word.now c.in-Some.front.now c.in-Some.last.now c.in-Some.ensures.cases.0 c.if-front-gt19.true

pub returns-then-begins_with_zero : goal.returns-then-begins_with_zero
returns-then-begins_with_zero c =
    none-zero c.args.word.now c.in-Some.front.now c.in-Some.last.now c.in-Some.ensures.cases.0 (eqb-true _ _ (sym c.begins_with_zero.ensures ∙ c.if-begins_with_zero.true))

pub returns-in_default-digits_value : goal.returns-in_default-digits_value
returns-in_default-digits_value c = none-front c.args.word.now c.in-Some.front.now c.in-Some.last.now c.in-Some.ensures.cases.0 (sym c.in_default-digits_value.is ∙ c.digits_value.ensures)

pub returns : goal.returns
returns c =
    number-last c.args.word.now c.in-Some.front.now c.in-Some.last.now c.in-Some-digits_value.tens _ c.in-Some.ensures.cases.0
    (eqb-false _ _ (sym c.begins_with_zero.ensures ∙ c.if-begins_with_zero.false)) (sym c.in-Some-digits_value.is ∙ c.digits_value.ensures) c.with_digit.ensures
