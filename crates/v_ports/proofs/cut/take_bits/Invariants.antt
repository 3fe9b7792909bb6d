use Rattle.std.proofs.Common.{◌≡◌, ◌-◌, length}
use Rattle.v_design.specs.Expressions.{up_from}
use Rattle.v_ports.specs.Cuts.{owned_after}
use Rattle.v_ports.proofs.cut.take_bits.Given as goal

abbrev pub invariant-bits : goal.invariant-bits
invariant-bits l = record {
  long : length l.owners.items ≡ length l.initial.owners.items;
  taken : owned_after l.number l.initial.owners.items (up_from l.fn.low (l.end - l.fn.low)) ≡ owned_after l.number l.owners.items (up_from l.bit (l.end - l.bit));
}
