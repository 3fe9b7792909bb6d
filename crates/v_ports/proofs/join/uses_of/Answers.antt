use Rattle.std.proofs.Common.{map}
use Rattle.v_ports.specs.PortViews.{port_used}
use Rattle.v_ports.proofs.Uses.{none-read}
use Rattle.v_ports.proofs.join.uses_of.Goals as goal

pub parts-init : goal.parts-init
parts-init c = none-read (map port_used c.args.parts.now) c.in_ok-uses.uses.items c.args.objects c.in_ok-uses.ensures.ok
