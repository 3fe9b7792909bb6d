-- What is kept stands by what the shard keeps.
use Rattle.std.proofs.Common.{◌≤◌, subst}
use Rattle.std.specs.Prelude.{sum_by}
use Rattle.kept_shard.specs.Keeping.{KeepingShard, KeepsAll, StandsKept, full_steps_at, kept_steps_of, numbers_of}
use Rattle.kept_shard.proofs.Standing.{all-kept, all-whole}
use Rattle.kept_shard.proofs.Ticks.{all-within}
use Rattle.kept_shard.proofs.shard.KeptShard.stands.Goals as goal

pub returns-clause-kept : goal.returns-clause-kept
returns-clause-kept g c =
    let s = c.self.inside in
    subst (StandsKept g.N.World.design g.N.World.plan) c.self.view_is
    (all-kept c.good_run_goes_on.ensures c.strobed_gradings_go_on.ensures c.full_grades_reach.ensures g.N.World.design g.N.World.plan s.gone s.reached s.faults.items s.kept.items c.self.invariant)

pub returns-clause-whole : goal.returns-clause-whole
returns-clause-whole g c =
    let s = c.self.inside in
    subst (KeepsAll g.N.World.design g.N.World.plan) c.self.view_is
    (all-whole c.good_run_goes_on.ensures c.strobed_gradings_go_on.ensures c.full_grades_reach.ensures g.N.World.design g.N.World.plan s.gone s.reached s.faults.items s.kept.items c.self.invariant)

pub returns-clause-steps : goal.returns-clause-steps
returns-clause-steps g c tally =
    let s = c.self.inside in
    subst (λ (shard : KeepingShard). kept_steps_of tally shard ≤ sum_by (full_steps_at tally) (numbers_of shard.kept)) c.self.view_is
    (all-within g.N.World.design g.N.World.plan tally s.gone s.reached s.faults.items s.kept.items c.self.invariant c.own_steps_rise.ensures)
