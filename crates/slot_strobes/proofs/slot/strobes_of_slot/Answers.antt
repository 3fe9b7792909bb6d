-- The strobes before the slot's time, and the one at it.
use Rattle.std.proofs.Common.{◌≡◌, suc, ◌+◌, ◌-◌, ◌<◌, List, length, map, take, drop, refl, sym, ap, subst, ◌∙◌, arith}
use Rattle.std.specs.Prelude.{Some}
use Rattle.vf_base.specs.Base.{watched_bit}
use Rattle.vf_base.specs.Lists.{AllHold}
use Rattle.vf_base.specs.declared.ids.WatchBit.{WatchBit}
use Rattle.v_design.specs.Designs.{TestPlan}
use Rattle.v_design.specs.Grades.{samples}
use Rattle.kept_samples.specs.Plain.{sample_of}
use Rattle.good_trace.specs.declared.ending.GoodEnd.TheVariants.{Open}
use Rattle.between_slots.specs.Between.{state_through}
use Rattle.copy_laws.specs.Windows.{good_slots}
use Rattle.lockstep_shards.proofs.window_strobes.Knowing.{design-rules}
use Rattle.lockstep_shards.specs.window_strobes.Passed.{HasPassed}
use Rattle.lockstep_shards.specs.window_strobes.Strobes.{AreStrobesOf, passed_behind}
use Rattle.lockstep_shards.specs.window_strobes.declared.strobes.WindowStrobes.{WindowStrobes}
use Rattle.lockstep_shards.specs.window_strobes.Watched.{IsObjectOf, objects-watched}
use Rattle.slot_strobes.specs.Counts.{samples_of}
use Rattle.slot_strobes.proofs.Sampled.{are-strobes, from-none, kept-are, passed-then, starts}
use Rattle.slot_strobes.proofs.slot.strobes_of_slot.Goals as goal

pub overflow_sub-begins : goal.overflow_sub-begins
overflow_sub-begins g c =
    let more : suc (c.args.window.now.before + c.args.slot) < length (good_slots g.N.World.design g.N.World.plan) = omega (arith, c.requires.next) in
    starts c.good_run_goes_on.ensures c.runs_stand.ensures g.N.World.design g.N.World.plan (design-rules g.N.World.design c.design-design.result.now c.design-design.ensures.world)
    (c.args.window.now.before + c.args.slot) c.requires.some more c.slot_time-begins.result c.slot_time-begins.ensures c.args.passed c.requires.passed

pub strobes_by-early-requires-after_bounds : goal.strobes_by-early-requires-after_bounds
strobes_by-early-requires-after_bounds g c κs within = c.requires.passed.within

pub strobes_by-count-requires-after_bounds : goal.strobes_by-count-requires-after_bounds
strobes_by-count-requires-after_bounds g c κs within = c.strobes_by-early.ensures.within

pub push_each-requires-clause-watched : goal.push_each-requires-clause-watched
push_each-requires-clause-watched g c κs within =
    subst (λ (watched : List WatchBit). AllHold (IsObjectOf g.N.World.design) (map watched_bit watched)) (sym c.as_slice-watched.ensures)
    (subst (λ (p : TestPlan). AllHold (IsObjectOf g.N.World.design) p.watched) c.plan-plan.ensures.world
    (objects-watched g.N.World.design g.N.World.plan.watched c.plan-plan.ensures.fits.watched))

pub push_each-requires-2-clause-watched : goal.push_each-requires-2-clause-watched
push_each-requires-2-clause-watched g c κs within =
    subst (λ (watched : List WatchBit). AllHold (IsObjectOf g.N.World.design) (map watched_bit watched)) (sym c.as_slice-watched.ensures)
    (subst (λ (p : TestPlan). AllHold (IsObjectOf g.N.World.design) p.watched) c.plan-plan.ensures.world
    (objects-watched g.N.World.design g.N.World.plan.watched c.plan-plan.ensures.fits.watched))

pub returns-clause-strobes : goal.returns-clause-strobes
returns-clause-strobes g c =
    let design = g.N.World.design in
    let plan = g.N.World.plan in
    let gone = c.args.window.now.before + c.args.slot in
    let passed = c.args.passed in
    let early = c.strobes_by-early.result in
    let count = c.strobes_by-count.result in
    let more : suc gone < length (good_slots design plan) = omega (arith, c.requires.next) in
    let same : suc gone ≡ c.args.window.now.before + (c.args.slot + 1) = omega arith in
    let watched = c.as_slice-watched.result.now in
    let strobes = c.as_slice-strobes.result.now in
    let first =
    from-none c.new-kept.result.items (samples_of (samples (map watched_bit watched) (state_through design plan gone).values) (take (early - passed) (drop passed strobes)))
    (map sample_of c.push_each.new.kept.items) c.new-kept.ensures.items c.in_ok-push_each.ensures in
    let kept =
    kept-are design plan gone (c.args.window.now.before + (c.args.slot + 1)) same passed early count watched strobes
    (ap (λ (p : TestPlan). p.watched) c.plan-plan.ensures.world ∙ ap (map watched_bit) (sym c.as_slice-watched.ensures))
    (ap (λ (p : TestPlan). p.strobes) c.plan-plan.ensures.world ∙ sym c.as_slice-strobes.ensures) c.push_each.new.kept.items c.push_each-2.new.kept.items first c.in_ok-push_each-2.ensures in
    let made : WindowStrobes = record { passed = passed; samples = c.push_each-2.new.kept; until = Some c.slot_time-begins.result; ending = Open } in
    subst (λ n. AreStrobesOf design plan gone n made) same
    (are-strobes c.good_run_goes_on.ensures c.runs_stand.ensures design plan (design-rules design c.design-design.result.now c.design-design.ensures.world) gone c.requires.some more
    c.slot_time-begins.result c.slot_time-begins.ensures passed c.requires.passed early count c.strobes_by-early.ensures c.strobes_by-count.ensures c.push_each-2.new.kept.items kept made refl refl
    refl refl)

pub returns-clause-behind : goal.returns-clause-behind
returns-clause-behind g c =
    let design = g.N.World.design in
    let plan = g.N.World.plan in
    let gone = c.args.window.now.before + c.args.slot in
    let passed = c.args.passed in
    let early = c.strobes_by-early.result in
    let count = c.strobes_by-count.result in
    let more : suc gone < length (good_slots design plan) = omega (arith, c.requires.next) in
    let same : suc gone ≡ c.args.window.now.before + (c.args.slot + 1) = omega arith in
    let watched = c.as_slice-watched.result.now in
    let strobes = c.as_slice-strobes.result.now in
    let first =
    from-none c.new-kept.result.items (samples_of (samples (map watched_bit watched) (state_through design plan gone).values) (take (early - passed) (drop passed strobes)))
    (map sample_of c.push_each.new.kept.items) c.new-kept.ensures.items c.in_ok-push_each.ensures in
    let kept =
    kept-are design plan gone (c.args.window.now.before + (c.args.slot + 1)) same passed early count watched strobes
    (ap (λ (p : TestPlan). p.watched) c.plan-plan.ensures.world ∙ ap (map watched_bit) (sym c.as_slice-watched.ensures))
    (ap (λ (p : TestPlan). p.strobes) c.plan-plan.ensures.world ∙ sym c.as_slice-strobes.ensures) c.push_each.new.kept.items c.push_each-2.new.kept.items first c.in_ok-push_each-2.ensures in
    let made : WindowStrobes = record { passed = passed; samples = c.push_each-2.new.kept; until = Some c.slot_time-begins.result; ending = Open } in
    subst (λ n. HasPassed design plan n (passed_behind made)) same
    (passed-then c.good_run_goes_on.ensures c.runs_stand.ensures design plan (design-rules design c.design-design.result.now c.design-design.ensures.world) gone c.requires.some more
    c.slot_time-begins.result c.slot_time-begins.ensures passed c.requires.passed early count c.strobes_by-early.ensures c.strobes_by-count.ensures c.push_each-2.new.kept.items kept made refl refl)
