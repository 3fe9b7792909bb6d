-- One fault more.
use Rattle.copy_shard.proofs.Places.{found-all, found-more, found-none}
use Rattle.copy_shard.proofs.shard.push_each.Goals as goal

pub faults-init : goal.faults-init
faults-init c = found-none c.args.found.now.items c.args.faults.now

pub faults-preserved : goal.faults-preserved
faults-preserved c =
    found-more c.args.found.now.items c.faults.own-index c.args.faults.now c.own-item.result c.faults.found.items c.push_finding.new.found.items c.faults-test.true c.own-item.is c.faults.invariant
    c.in_ok-push_finding.ensures

pub returns : goal.returns
returns c = found-all c.args.found.now.items c.faults.own-index c.args.faults.now c.faults.found.items c.faults-test.false c.faults.invariant
