use Rattle.v_scan.specs.Bytes.{goes_in_decimal}
use Rattle.v_scan.proofs.Spans.{while-each}
use Rattle.v_scan.proofs.NumberReads.{tells-plain, tells-none, tells-based, tail-digits}
use Rattle.v_scan.proofs.number.number.Goals as goal

pub plain_value-requires : goal.plain_value-requires
plain_value-requires c = rw c.split.ensures.front (while-each goes_in_decimal c.args.text.now)

pub returns-in_default : goal.returns-in_default
returns-in_default c =
    tells-plain c.args.text.now c.split.result.0.now c.split.result.1.now c.behind.result.now c.plain_value.result c.split.ensures.front c.split.ensures.back c.behind.ensures
    c.in_default.ensures.none c.plain_value.ensures

pub returns-in_default-base_and_digits : goal.returns-in_default-base_and_digits
returns-in_default-base_and_digits c =
    tells-none c.args.text.now c.split.result.0.now c.split.result.1.now c.behind.result.now c.in-Some.tail.now c.split.ensures.front c.split.ensures.back c.behind.ensures
    c.in-Some.ensures.found c.in_default-base_and_digits.ensures.none

pub value_of-requires-clause-size : goal.value_of-requires-clause-size
value_of-requires-clause-size c = rw c.split.ensures.front (while-each goes_in_decimal c.args.text.now)

pub value_of-requires-clause-digits : goal.value_of-requires-clause-digits
value_of-requires-clause-digits c =
    let found = c.in-Some-base_and_digits.found in
    tail-digits c.in-Some.tail.now found.signed found.base found.digits.now found.back.now c.in-Some-base_and_digits.ensures.found

pub returns : goal.returns
returns c =
    let found = c.in-Some-base_and_digits.found in
    tells-based c.args.text.now c.split.result.0.now c.split.result.1.now c.behind.result.now c.in-Some.tail.now found.signed found.base found.digits.now found.back.now c.in_ok-value.value
    c.split.ensures.front c.split.ensures.back c.behind.ensures c.in-Some.ensures.found c.in-Some-base_and_digits.ensures.found c.in_ok-value.ensures
