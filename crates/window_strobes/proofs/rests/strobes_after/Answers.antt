-- The rest by the time of the last slot before it.
use Rattle.std.proofs.Common.{◌≡◌, ◌+◌, ◌≤◌, length, drop, refl, sym, ap, ◌∙◌, arith}
use Rattle.std.proofs.lemmas.List.{take_rest}
use Rattle.vf_base.specs.declared.limits.TheConstants.{MAX_STROBES}
use Rattle.window_strobes.proofs.Knowing.{design-rules, plan-rules}
use Rattle.window_strobes.proofs.Resting.{are-rest, few, same-behind}
use Rattle.window_strobes.proofs.rests.strobes_after.Goals as goal

pub overflow_add-result : goal.overflow_add-result
overflow_add-result g c =
    let low = few c.good_run_goes_on.ensures g.N.World.design g.N.World.plan (design-rules g.N.World.design c.design-design.result.now c.design-design.ensures.world)
    (plan-rules g.N.World.plan c.plan-plan.result.now c.plan-plan.ensures.world) c.args.window.now.before c.args.window.now.through c.args.slots c.args.window.now.ending c.begins-first.ensures.window
    c.requires.some c.requires.more c.args.strobes.now c.requires.strobes c.slot_time-time.result c.slot_time-time.ensures c.count_by-count.result c.deref.result.now c.deref.ensures.value
    c.count_by-count.ensures.within c.count_by-count.ensures.by c.count_by-count.ensures.next in
    let most : length g.N.World.plan.strobes ≤ MAX_STROBES = (plan-rules g.N.World.plan c.plan-plan.result.now c.plan-plan.ensures.world).few_strobes in
    omega (arith, low, most)

pub returns-clause-strobes : goal.returns-clause-strobes
returns-clause-strobes g c =
    are-rest c.good_run_goes_on.ensures g.N.World.design g.N.World.plan (design-rules g.N.World.design c.design-design.result.now c.design-design.ensures.world)
    (plan-rules g.N.World.plan c.plan-plan.result.now c.plan-plan.ensures.world) c.args.window.now.before c.args.window.now.through c.args.slots c.args.window.now.ending c.begins-first.ensures.window
    c.requires.some c.requires.more c.args.strobes.now c.requires.strobes c.slot_time-time.result c.slot_time-time.ensures c.count_by-count.result c.deref.result.now c.deref.ensures.value
    c.count_by-count.ensures.within c.count_by-count.ensures.by c.count_by-count.ensures.next
    (record { passed = c.args.strobes.now.passed + c.count_by-count.result; samples = c.in_ok-samples.samples; until = c.args.strobes.now.until; ending = c.args.strobes.now.ending }) refl
    (c.in_ok-samples.ensures ∙ take_rest c.deref-2.result.now c.count_by-count.result ∙ ap (drop c.count_by-count.result) (c.deref-2.ensures.value ∙ sym c.deref.ensures.value)) refl refl

pub returns-clause-behind : goal.returns-clause-behind
returns-clause-behind g c =
    same-behind c.good_run_goes_on.ensures g.N.World.design g.N.World.plan (design-rules g.N.World.design c.design-design.result.now c.design-design.ensures.world)
    (plan-rules g.N.World.plan c.plan-plan.result.now c.plan-plan.ensures.world) c.args.window.now.before c.args.window.now.through c.args.slots c.args.window.now.ending c.begins-first.ensures.window
    c.requires.some c.requires.more c.args.strobes.now c.requires.strobes c.slot_time-time.result c.slot_time-time.ensures c.count_by-count.result c.deref.result.now c.deref.ensures.value
    c.count_by-count.ensures.within c.count_by-count.ensures.by c.count_by-count.ensures.next
    (record { passed = c.args.strobes.now.passed + c.count_by-count.result; samples = c.in_ok-samples.samples; until = c.args.strobes.now.until; ending = c.args.strobes.now.ending }) refl
    (c.in_ok-samples.ensures ∙ take_rest c.deref-2.result.now c.count_by-count.result ∙ ap (drop c.count_by-count.result) (c.deref-2.ensures.value ∙ sym c.deref.ensures.value))
