use Rattle.std.proofs.Common.{◌≡◌, drop, true}
use Rattle.v_scan.specs.Bytes.{each, goes_in_decimal}
use Rattle.v_scan.specs.Numbers.{decimal_behind}
use Rattle.v_scan.proofs.value.decimal.Given as goal

abbrev pub invariant-digits : goal.invariant-digits
invariant-digits l = record {
  same : decimal_behind 0 l.digits ≡ decimal_behind l.number (drop l.b-index l.digits);
  fine : each goes_in_decimal (drop l.b-index l.digits) ≡ true;
}
