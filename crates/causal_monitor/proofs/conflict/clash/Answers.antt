use Rattle.vf_base.specs.Base.{object_number}
use Rattle.causal_monitor.proofs.conflict.clash.Goals as goal

pub returns-in-Read : goal.returns-in-Read
returns-in-Read c = rw c.in-Read.is (c.read_clashes.ensures (object_number c.args.first.now.access.object))

pub returns-in-Settle : goal.returns-in-Settle
returns-in-Settle c = rw c.in-Settle.is (c.settle_clashes.ensures (object_number c.args.first.now.access.object))
