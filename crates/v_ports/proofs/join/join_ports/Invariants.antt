use Rattle.std.proofs.Common.{◌≡◌, map}
use Rattle.v_design.specs.Expressions.{up_from}
use Rattle.v_ports.specs.JoinedObjects.{last_along}
use Rattle.v_ports.specs.Joins.{next_of}
use Rattle.v_ports.proofs.join.join_ports.Given as goal

abbrev pub invariant-objects : goal.invariant-objects
invariant-objects l = l.joined.items ≡ map (last_along l.objects (next_of l.uses.items)) (up_from 0 l.object)
