use Rattle.std.proofs.Common.{◌≤◌, ◌^◌, arith, lit<}
use Rattle.std.proofs.Math.Nat.{pow-le-pow_right}
use Rattle.text_lines.proofs.number.digits_value.Goals as goal

pub overflow_mul-value : goal.overflow_mul-value
overflow_mul-value c = let p : 10 ^ c.loop-digit.digit-index ≤ 10 ^ 18 = pow-le-pow_right (lit< tt) {i = c.loop-digit.digit-index} {j = 18} (omega arith) in
    omega (arith, p, c.loop-digit.invariant.small)

pub overflow_add-value : goal.overflow_add-value
overflow_add-value c = let p : 10 ^ c.loop-digit.digit-index ≤ 10 ^ 18 = pow-le-pow_right (lit< tt) {i = c.loop-digit.digit-index} {j = 18} (omega arith) in
    omega (arith, p, c.loop-digit.invariant.small)
