use Rattle.std.proofs.Common.{◌≡◌, ◌++◌, ◌-◌, ◌≤◌}
use Rattle.four_value.specs.Values.{bits_of}
use Rattle.v_scan.proofs.value.push_number.Given as goal

abbrev pub invariant-places : goal.invariant-places
invariant-places l = record {
  within : l.counter ≤ l.count;
  same : l.bits.items ++ bits_of (l.count - l.counter) l.rest ≡ l.fn.bits.items ++ bits_of l.count l.number;
}
