use Rattle.std.proofs.Common.{◌≡◌, ◌-◌}
use Rattle.v_design.specs.Expressions.{up_from}
use Rattle.v_ports.specs.Cuts.{first_owned}
use Rattle.v_ports.proofs.cut.least_taken.Given as goal

abbrev pub invariant-bits : goal.invariant-bits
invariant-bits l = first_owned l.owners (up_from l.fn.low (l.end - l.fn.low)) ≡ first_owned l.owners (up_from l.bit (l.end - l.bit))
