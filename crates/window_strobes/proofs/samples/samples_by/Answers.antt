-- The strobes from a number on.
use Rattle.std.proofs.Common.{◌≡◌, ℕ, ◌-◌, List, length, take, drop, sym, ap, subst, ◌∙◌}
use Rattle.std.proofs.lemmas.List.{take_rest}
use Rattle.vf_base.specs.Lists.{AllHold}
use Rattle.v_design.specs.Designs.{TestPlan}
use Rattle.v_design.specs.WellFormed.{IsAscending}
use Rattle.window_strobes.specs.Slots.{BeginsBy}
use Rattle.window_strobes.proofs.Beginning.{ascending-drop, begun-all}
use Rattle.window_strobes.proofs.samples.samples_by.Goals as goal

-- the strobes from a number on, as they are read
rest-is : (strobes read : List ℕ) (count : ℕ) → strobes ≡ read → drop count strobes ≡ take (length read - count) (drop count read)
rest-is strobes read count e = ap (drop count) e ∙ sym (take_rest read count)

pub samples_to-requires-clause-ascend : goal.samples_to-requires-clause-ascend
samples_to-requires-clause-ascend g c κs within =
    subst IsAscending (rest-is g.N.World.plan.strobes c.as_slice.result.now c.args.passed (ap (λ (p : TestPlan). p.strobes) c.plan-plan.ensures.world ∙ sym c.as_slice.ensures))
    (ascending-drop c.args.passed g.N.World.plan.strobes c.requires.known.of_plan.ascending)

pub samples_to-requires-clause-begun : goal.samples_to-requires-clause-begun
samples_to-requires-clause-begun g c κs within =
    subst (AllHold (BeginsBy g.N.World.design g.N.World.plan c.args.window.now.before))
    (rest-is g.N.World.plan.strobes c.as_slice.result.now c.args.passed (ap (λ (p : TestPlan). p.strobes) c.plan-plan.ensures.world ∙ sym c.as_slice.ensures))
    (begun-all g.N.World.design g.N.World.plan c.args.window.now.before c.args.window.now.through c.args.passed c.args.window.now.ending c.requires.known c.requires.passed)

pub samples_to-requires-clause-led : goal.samples_to-requires-clause-led
samples_to-requires-clause-led g c κs within = c.requires.led c.in-Some.time c.in-Some.is
