-- What is reached from the phase's first moment on is what the phase reaches.
use Rattle.std.proofs.Common.{subst}
use Rattle.phase_reach.specs.Reached.{MomentsAreReached}
use Rattle.phase_reach.proofs.reach.reach_phase.Goals as goal

pub returns-clause-all : goal.returns-clause-all
returns-clause-all g c = λ yes.
    subst (λ n. MomentsAreReached g.N.World.design g.N.World.plan c.args.window.now.before c.args.window.now.through n c.args.end c.reach_between.new.reached) c.first.ensures
    (c.reach_between.ensures.all yes)
