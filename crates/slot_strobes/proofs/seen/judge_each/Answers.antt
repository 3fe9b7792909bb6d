-- The first strobe alone can find something.
use Rattle.std.proofs.Common.{◌+◌, ◌<◌, List, length, get_or, map, sym, ap, subst, ◌∙◌, arith}
use Rattle.vf_base.specs.Base.{WatchedBit, watched_bit}
use Rattle.vf_base.specs.Lists.{AllHold}
use Rattle.v_design.specs.Designs.{TestPlan}
use Rattle.v_design.specs.Grades.{is_hard, is_possible, samples, some_sample}
use Rattle.v_design.specs.Plain.{fault_of}
use Rattle.fault_strobes.specs.Said.{Judging}
use Rattle.strobe_detect.specs.Firsts.{first_time}
use Rattle.between_slots.specs.Between.{state_through}
use Rattle.copy_overlay.specs.Faulty.{faulty_values}
use Rattle.lockstep_shards.proofs.window_strobes.Knowing.{design-rules, plan-rules}
use Rattle.lockstep_shards.specs.window_strobes.Watched.{IsObjectOf, objects-watched}
use Rattle.slot_strobes.proofs.Lists.{read-at}
use Rattle.slot_strobes.proofs.Seeing.{found-first, none-found}
use Rattle.slot_strobes.specs.Strobes.{IsFoundAt, IsGradingBehind}
use Rattle.slot_strobes.proofs.seen.judge_each.Goals as goal

pub compare-shown-requires-clause-watched : goal.compare-shown-requires-clause-watched
compare-shown-requires-clause-watched g c κs within =
    subst (λ (watched : List WatchedBit). AllHold (IsObjectOf g.N.World.design) watched)
    (ap (λ (p : TestPlan). p.watched) c.plan-plan.ensures.world ∙ sym (ap (map watched_bit) c.as_slice.ensures))
    (objects-watched g.N.World.design g.N.World.plan.watched c.plan-plan.ensures.fits.watched)

pub bounds-strobes-first : goal.bounds-strobes-first
bounds-strobes-first g c =
    let long = ap (λ (p : TestPlan). length p.strobes) c.plan-plan.ensures.world ∙ sym (ap length c.as_slice-strobes.ensures) in
    omega (arith, c.if-first-end.false, c.requires.order, c.requires.within, long)

pub returns-then-first-end-clause-seen : goal.returns-then-first-end-clause-seen
returns-then-first-end-clause-seen g c =
    subst (λ n. IsGradingBehind g.N.World.design g.N.World.plan (fault_of c.args.fault) n (Judging c.args.possible)) c.if-first-end.true c.requires.grading

pub returns-then-shown-clause-seen : goal.returns-then-shown-clause-seen
returns-then-shown-clause-seen g c =
    let design = g.N.World.design in
    let plan = g.N.World.plan in
    let gone = c.args.window.now.before + c.args.slot in
    let good = (state_through design plan gone).values in
    let own = faulty_values good c.args.copy.now.values in
    let low : c.args.first < c.args.end = omega (arith, c.if-first-end.false, c.requires.order) in
    let same = ap (λ (p : TestPlan). p.strobes) c.plan-plan.ensures.world ∙ sym c.as_slice-strobes.ensures in
    let strobe = get_or c.as_slice-strobes.result.now c.args.first 0 in
    let here = read-at plan.strobes c.as_slice-strobes.result.now c.args.first same (omega (arith, low, c.requires.within, ap length same)) in
    let watched = ap (map watched_bit) c.as_slice.ensures ∙ sym (ap (λ (p : TestPlan). p.watched) c.plan-plan.ensures.world) in
    subst (IsFoundAt design plan (fault_of c.args.fault) c.args.first c.args.end strobe)
    (sym (ap Judging (c.first_of-possible.ensures
    ∙ ap (λ b. first_time c.args.possible b strobe) (c.compare-shown.ensures.possible ∙ ap (λ bits. some_sample is_possible (samples bits good) (samples bits own)) watched))))
    (found-first c.shards_go_in_lockstep.ensures design plan (design-rules design c.design-design.result.now c.design-design.ensures.world)
    (plan-rules plan c.plan-plan.result.now c.plan-plan.ensures.world) (fault_of c.args.fault) c.args.copy.now gone c.args.first c.args.end strobe c.args.possible low here
    (c.requires.stands c.args.first strobe (omega arith) low here) c.requires.grading
    (ap (λ bits. some_sample is_hard (samples bits good) (samples bits own)) (sym watched) ∙ sym c.compare-shown.ensures.hard ∙ c.if-shown.true))

pub returns-clause-seen : goal.returns-clause-seen
returns-clause-seen g c =
    let design = g.N.World.design in
    let plan = g.N.World.plan in
    let gone = c.args.window.now.before + c.args.slot in
    let good = (state_through design plan gone).values in
    let own = faulty_values good c.args.copy.now.values in
    let low : c.args.first < c.args.end = omega (arith, c.if-first-end.false, c.requires.order) in
    let same = ap (λ (p : TestPlan). p.strobes) c.plan-plan.ensures.world ∙ sym c.as_slice-strobes.ensures in
    let strobe = get_or c.as_slice-strobes.result.now c.args.first 0 in
    let here = read-at plan.strobes c.as_slice-strobes.result.now c.args.first same (omega (arith, low, c.requires.within, ap length same)) in
    let watched = ap (map watched_bit) c.as_slice.ensures ∙ sym (ap (λ (p : TestPlan). p.watched) c.plan-plan.ensures.world) in
    none-found c.shards_go_in_lockstep.ensures design plan (design-rules design c.design-design.result.now c.design-design.ensures.world)
    (plan-rules plan c.plan-plan.result.now c.plan-plan.ensures.world) (fault_of c.args.fault) c.args.copy.now gone
    (ap (λ bits. some_sample is_hard (samples bits good) (samples bits own)) (sym watched) ∙ sym c.compare-shown.ensures.hard ∙ c.if-shown.false)
    c.args.first c.args.end strobe c.args.possible c.first_of-possible.result low c.requires.within c.requires.stands here c.requires.grading
    (c.first_of-possible.ensures
    ∙ ap (λ b. first_time c.args.possible b strobe) (c.compare-shown.ensures.possible ∙ ap (λ bits. some_sample is_possible (samples bits good) (samples bits own)) watched))
