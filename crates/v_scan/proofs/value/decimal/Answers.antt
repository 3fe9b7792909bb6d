use Rattle.v_scan.proofs.ValueLaws.{decimal-over}
use Rattle.v_scan.proofs.value.decimal.Goals as goal

pub returns-in_default-clause-none : goal.returns-in_default-clause-none
returns-in_default-clause-none c =
    decimal-over c.args.digits.now c.digits.b-index c.digits.number 340282366920938463463374607431768211456 c.digits-test.true c.if-b-ne95.true c.digits.invariant.same c.in_default.ensures.none
