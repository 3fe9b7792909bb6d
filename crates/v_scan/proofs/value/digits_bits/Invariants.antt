use Rattle.std.proofs.Common.{◌≡◌, ◌≤◌, drop, length}
use Rattle.v_scan.specs.Numbers.{digits_bits}
use Rattle.v_scan.proofs.value.digits_bits.Given as goal

abbrev pub invariant-digits : goal.invariant-digits
invariant-digits l = record {
  within : l.at ≤ length l.digits;
  same : l.bits.items ≡ digits_bits l.base (drop l.at l.digits);
}

abbrev pub decreases-digits : goal.decreases-digits
decreases-digits l = l.at
