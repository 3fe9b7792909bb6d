use Rattle.std.proofs.Common.{◌≡◌, ◌+◌, drop}
use Rattle.v_ports.specs.Cuts.{owner_at, leading, first_run}
use Rattle.v_ports.proofs.cut.run_end.Given as goal

abbrev pub invariant-bits : goal.invariant-bits
invariant-bits l = l.low + first_run (drop l.low l.owners) ≡ l.bit + leading (owner_at l.owners l.low) (drop l.bit l.owners)
