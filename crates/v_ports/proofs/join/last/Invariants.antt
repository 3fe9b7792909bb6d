use Rattle.v_ports.specs.Joins.{next_of}
use Rattle.v_ports.proofs.Uses.{WayLeft}
use Rattle.v_ports.proofs.join.last.Given as goal

abbrev pub invariant-joins : goal.invariant-joins
invariant-joins l = WayLeft (next_of l.uses) l.objects l.counter l.fn.object l.now
