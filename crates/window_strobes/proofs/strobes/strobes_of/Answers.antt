-- What is known of the window, and the strobes up to its end.
use Rattle.std.proofs.Common.{sym, subst}
use Rattle.window_strobes.specs.Leading.{LeadsTo}
use Rattle.window_strobes.proofs.Knowing.{design-rules, knows}
use Rattle.window_strobes.proofs.Behind.{passed-behind}
use Rattle.window_strobes.proofs.strobes.strobes_of.Goals as goal

pub last_time-until-requires-after_bounds : goal.last_time-until-requires-after_bounds
last_time-until-requires-after_bounds g c κs within =
    let rules = design-rules g.N.World.design c.design-design.result.now c.design-design.ensures.world in
    knows g.N.World.design g.N.World.plan c.args.window.now.before c.args.window.now.through c.slots.result c.args.window.now.ending c.design-design.result.now c.plan-plan.result.now
    c.design-design.ensures.world c.plan-plan.ensures.world c.plan-plan.ensures.fits c.begins-first.ensures.window c.slots.ensures c.rests_before.ensures.few
    (λ slot. c.good_run_goes_on.ensures.first g.N.World.design g.N.World.plan slot rules)
    (λ number slot. c.good_run_goes_on.ensures.within g.N.World.design g.N.World.plan number slot rules)

pub samples_by-requires-clause-known : goal.samples_by-requires-clause-known
samples_by-requires-clause-known g c κs within =
    let rules = design-rules g.N.World.design c.design-design.result.now c.design-design.ensures.world in
    knows g.N.World.design g.N.World.plan c.args.window.now.before c.args.window.now.through c.slots.result c.args.window.now.ending c.design-design.result.now c.plan-plan.result.now
    c.design-design.ensures.world c.plan-plan.ensures.world c.plan-plan.ensures.fits c.begins-first.ensures.window c.slots.ensures c.rests_before.ensures.few
    (λ slot. c.good_run_goes_on.ensures.first g.N.World.design g.N.World.plan slot rules)
    (λ number slot. c.good_run_goes_on.ensures.within g.N.World.design g.N.World.plan number slot rules)

pub returns-clause-behind : goal.returns-clause-behind
returns-clause-behind g c =
    let rules = design-rules g.N.World.design c.design-design.result.now c.design-design.ensures.world in
    passed-behind g.N.World.design g.N.World.plan c.args.window.now.before c.args.window.now.through c.args.window.now.ending
    (knows g.N.World.design g.N.World.plan c.args.window.now.before c.args.window.now.through c.slots.result c.args.window.now.ending c.design-design.result.now c.plan-plan.result.now
    c.design-design.ensures.world c.plan-plan.ensures.world c.plan-plan.ensures.fits c.begins-first.ensures.window c.slots.ensures c.rests_before.ensures.few
    (λ slot. c.good_run_goes_on.ensures.first g.N.World.design g.N.World.plan slot rules)
    (λ number slot. c.good_run_goes_on.ensures.within g.N.World.design g.N.World.plan number slot rules))
    (record { passed = c.args.passed; samples = c.in_ok-samples.samples; until = c.last_time-until.result; ending = c.ending.result })
    (record {
      has_passed = c.requires;
      seen = c.in_ok-samples.ensures;
      leads = subst (λ e. LeadsTo g.N.World.design g.N.World.plan c.args.window.now.before c.args.window.now.through e c.last_time-until.result) (sym c.ending.ensures) c.last_time-until.ensures;
    })
