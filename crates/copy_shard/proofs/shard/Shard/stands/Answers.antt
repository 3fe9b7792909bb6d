-- The faults stand by what the shard keeps.
use Rattle.std.proofs.Common.{subst}
use Rattle.copy_shard.specs.Shards.{StandsBeside}
use Rattle.copy_shard.proofs.Standing.{all-found, all-graded, all-stand}
use Rattle.copy_shard.proofs.Ticks.{all-within}
use Rattle.copy_shard.proofs.shard.Shard.stands.Goals as goal

pub returns-clause-stands : goal.returns-clause-stands
returns-clause-stands g c =
    subst (StandsBeside g.N.World.design g.N.World.plan) c.self.view_is
    (all-stand g.N.World.design g.N.World.plan c.self.inside.gone c.self.inside.reached.passed c.self.inside.faults.items c.self.invariant.judged c.self.invariant.each)

pub returns-clause-graded : goal.returns-clause-graded
returns-clause-graded g c =
    all-graded g.N.World.design g.N.World.plan c.args.self.now.gone c.args.self.now.faults
    (subst (StandsBeside g.N.World.design g.N.World.plan) c.self.view_is
    (all-stand g.N.World.design g.N.World.plan c.self.inside.gone c.self.inside.reached.passed c.self.inside.faults.items c.self.invariant.judged c.self.invariant.each))

pub returns-clause-complete : goal.returns-clause-complete
returns-clause-complete g c over =
    all-found g.N.World.design g.N.World.plan c.args.self.now.gone over c.args.self.now.faults
    (subst (StandsBeside g.N.World.design g.N.World.plan) c.self.view_is
    (all-stand g.N.World.design g.N.World.plan c.self.inside.gone c.self.inside.reached.passed c.self.inside.faults.items c.self.invariant.judged c.self.invariant.each))

pub returns-clause-steps : goal.returns-clause-steps
returns-clause-steps g c tally =
    all-within c.own_steps_rise.ensures g.N.World.design g.N.World.plan tally c.args.self.now.gone c.args.self.now.faults
    (subst (StandsBeside g.N.World.design g.N.World.plan) c.self.view_is
    (all-stand g.N.World.design g.N.World.plan c.self.inside.gone c.self.inside.reached.passed c.self.inside.faults.items c.self.invariant.judged c.self.invariant.each))
