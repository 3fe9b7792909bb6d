-- The counters that no worker has stay.
use Rattle.std.proofs.Common.{◌≡◌, ◌+◌, ◌≤◌, ◌++◌, length, ap, sym, subst, ◌∙◌, arith}
use Rattle.std.specs.Prelude.{slice_index, sum}
use Rattle.v_design.specs.OwnSteps.{good_steps}
use Rattle.v_design.specs.Designs.{FlatDesign, TestPlan}
use Rattle.v_design.specs.PlainDesigns.{design_of, plan_of}
use Rattle.shard_workers.specs.Closings.{GradedTicks}
use Rattle.shard_workers.proofs.Ticks.{first-is, ticks-over}
use Rattle.shard_workers.proofs.grade.grade_all.Goals as goal

pub returns-clause-ticks : goal.returns-clause-ticks
returns-clause-ticks g c =
    let first = c.split_at_mut-own.result.0.now in
    let counters = c.split_at_mut-counters.result.0.now in
    let rest = c.split_at_mut-counters.result.1.now in
    let graded = c.in_ok-graded.graded in
    let after = sum (c.work_all.new.own ++ (c.work_all.new.steps ++ rest)) in
    let all = c.split_at_mut-own.ensures.value ∙ ap (λ l. first ++ l) c.split_at_mut-counters.ensures.value in
    let within =
    subst (λ l. GradedTicks g.N.World.design g.N.World.plan (sum l) after graded) (sym all)
    (ticks-over g.N.World.design g.N.World.plan first counters rest c.work_all.new.own c.work_all.new.steps graded c.in_ok-graded.ensures.ticks) in
    subst (λ (design : FlatDesign). GradedTicks design (plan_of c.args.plan.now) (sum c.args.steps.now) after graded) c.requires.world.0
    (subst (λ (plan : TestPlan). GradedTicks g.N.World.design plan (sum c.args.steps.now) after graded) c.requires.world.1 within)

pub returns-clause-good : goal.returns-clause-good
returns-clause-good g c =
    let first = c.split_at_mut-own.result.0.now in
    let counters = c.split_at_mut-counters.result.0.now in
    let rest = c.split_at_mut-counters.result.1.now in
    let one : length first ≡ 1 = c.split_at_mut-own.ensures.front_len in
    let own : length c.work_all.new.own ≡ 1 = c.work_all.auto.own ∙ one in
    let all = c.split_at_mut-own.ensures.value ∙ ap (λ l. first ++ l) c.split_at_mut-counters.ensures.value in
    let was : slice_index c.args.steps.now 0 ≡ sum first = ap (λ l. slice_index l 0) all ∙ first-is first (counters ++ rest) one in
    let now : slice_index (c.work_all.new.own ++ (c.work_all.new.steps ++ rest)) 0 ≡ sum c.work_all.new.own = first-is c.work_all.new.own (c.work_all.new.steps ++ rest) own in
    let most : sum c.work_all.new.own ≤ sum first + good_steps (design_of c.args.design.now) (plan_of c.args.plan.now) =
    subst (λ (design : FlatDesign). sum c.work_all.new.own ≤ sum first + good_steps design (plan_of c.args.plan.now)) c.requires.world.0
    (subst (λ (plan : TestPlan). sum c.work_all.new.own ≤ sum first + good_steps g.N.World.design plan) c.requires.world.1 c.in_ok-graded.ensures.good) in
    omega (arith, was, now, most)
