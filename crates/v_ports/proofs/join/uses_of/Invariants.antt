use Rattle.std.proofs.Common.{drop, map}
use Rattle.v_ports.specs.PortViews.{port_used}
use Rattle.v_ports.proofs.Uses.{AreRead}
use Rattle.v_ports.proofs.join.uses_of.Given as goal

abbrev pub invariant-parts : goal.invariant-parts
invariant-parts l = AreRead (map port_used l.parts) (map port_used (drop l.part-index l.parts)) l.uses.items l.objects
