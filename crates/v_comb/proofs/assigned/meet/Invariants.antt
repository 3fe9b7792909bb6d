use Rattle.std.proofs.Common.{◌≡◌}
use Rattle.v_comb.proofs.Turns.{met_first}
use Rattle.v_comb.proofs.assigned.meet.Given as goal

abbrev pub invariant-flags : goal.invariant-flags
invariant-flags l = l.flags.items ≡ met_first l.place l.initial.flags.items l.other
