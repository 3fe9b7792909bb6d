use Rattle.std.proofs.Common.{◌∙◌, sym, rules}
use Rattle.fault_list.proofs.Decimals.{decimal-none, decimal-wrong, decimal-rest, decimal-one, empty-eq}
use Rattle.fault_list.proofs.compare.+is_decimal.Goals as goal

pub returns : goal.returns
returns t c =
    c.is_decimal.ensures ∙ decimal-rest c.args.number c.in-Some.last.now c.in-Some.front.now c.args.digits.now c.if-number-lt10.false (search rules) c.in-Some.ensures.cases.0
    (sym c.if-from-number.false ∙ c.from.ensures)

pub returns-then-from-number : goal.returns-then-from-number
returns-then-from-number t c =
    decimal-wrong c.args.number c.in-Some.last.now c.in-Some.front.now c.args.digits.now (search rules) c.in-Some.ensures.cases.0 (λ e. c.if-from-number.true (c.from.ensures ∙ sym e))

pub returns-then-number-lt10 : goal.returns-then-number-lt10
returns-then-number-lt10 t c =
    c.is_empty.ensures ∙ (empty-eq c.in-Some.front.now ∙ decimal-one c.args.number c.in-Some.last.now c.in-Some.front.now c.args.digits.now c.if-number-lt10.true c.in-Some.ensures.cases.0
    (sym c.if-from-number.false ∙ c.from.ensures))

pub returns-in_default : goal.returns-in_default
returns-in_default t c = decimal-none c.args.number c.args.digits.now (search rules) c.in_default.ensures.cases
