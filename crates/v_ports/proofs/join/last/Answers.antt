use Rattle.v_ports.specs.Joins.{next_of}
use Rattle.v_ports.proofs.Uses.{whole-way}
use Rattle.v_ports.proofs.join.last.Goals as goal

pub joins-init : goal.joins-init
joins-init c = whole-way (next_of c.args.uses.now) c.args.objects c.args.object
