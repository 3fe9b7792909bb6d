-- Strobe by strobe.
use Rattle.std.proofs.Common.{◌≡◌, ◌≤◌, length, get_or, sym, ap, subst, ◌∙◌, arith}
use Rattle.v_design.specs.Designs.{TestPlan}
use Rattle.lockstep_shards.proofs.window_strobes.Knowing.{plan-rules}
use Rattle.slot_strobes.specs.Counts.{AllBetween}
use Rattle.slot_strobes.proofs.Counted.{counts-all, counts-next}
use Rattle.slot_strobes.proofs.Lists.{between-more, between-none, read-at}
use Rattle.slot_strobes.proofs.count.strobes_by.Goals as goal

pub strobes-init : goal.strobes-init
strobes-init g c = between-none g.N.World.plan.strobes c.args.from (λ strobe. strobe ≤ c.args.time)

pub returns-then-time-strobe : goal.returns-then-time-strobe
returns-then-time-strobe g c =
    let strobes = g.N.World.plan.strobes in
    let same = ap (λ (p : TestPlan). p.strobes) c.plan-plan.ensures.world ∙ sym c.as_slice-strobes.ensures in
    let long = ap length same in
    counts-next strobes (plan-rules g.N.World.plan c.plan-plan.result.now c.plan-plan.ensures.world).ascending c.args.from c.strobes.place c.args.time (omega arith)
    (omega (arith, c.strobes-test.true, long)) c.strobes.invariant (get_or c.as_slice-strobes.result.now c.strobes.place 0)
    (read-at strobes c.as_slice-strobes.result.now c.strobes.place same c.strobes-test.true) c.if-time-strobe.true

pub strobes-preserved : goal.strobes-preserved
strobes-preserved g c =
    let strobes = g.N.World.plan.strobes in
    let same = ap (λ (p : TestPlan). p.strobes) c.plan-plan.ensures.world ∙ sym c.as_slice-strobes.ensures in
    between-more (λ strobe. strobe ≤ c.args.time) strobes c.args.from c.strobes.place (get_or c.as_slice-strobes.result.now c.strobes.place 0)
    (read-at strobes c.as_slice-strobes.result.now c.strobes.place same c.strobes-test.true) c.strobes.invariant
    c.if-time-strobe.false

pub returns : goal.returns
returns g c =
    let strobes = g.N.World.plan.strobes in
    let same = ap (λ (p : TestPlan). p.strobes) c.plan-plan.ensures.world ∙ sym c.as_slice-strobes.ensures in
    let long = ap length same in
    let count = length c.as_slice-strobes.result.now in
    let all : c.strobes.place ≡ count = omega (arith, c.strobes-test.false, c.strobes.auto.place-end, long, c.requires) in
    counts-all strobes (plan-rules g.N.World.plan c.plan-plan.result.now c.plan-plan.ensures.world).ascending c.args.from count c.args.time (omega (arith, long, c.requires)) (omega (arith, long))
    (subst (λ n. AllBetween strobes c.args.from n (λ strobe. strobe ≤ c.args.time)) all c.strobes.invariant) (omega (arith, long))
