use Rattle.std.proofs.Common.{◌≡◌, ◌++◌, ◌-◌, ◌≤◌, replicate}
use Rattle.v_scan.proofs.value.push_copies.Given as goal

abbrev pub invariant-copies : goal.invariant-copies
invariant-copies l = record {
  within : l.counter ≤ l.count;
  same : l.bits.items ++ replicate (l.count - l.counter) l.bit ≡ l.fn.bits.items ++ replicate l.count l.bit;
}
