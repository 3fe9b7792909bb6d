-- The samples at the strobes differ, or none does.
use Rattle.std.proofs.Common.{◌+◌, ◌-◌, ◌<◌, List, ◌≤◌, ◌++◌, length, map, take, drop, sym, ap, subst, ◌∙◌, arith}
use Rattle.vf_base.specs.Base.{WatchedBit, watched_bit}
use Rattle.vf_base.specs.Lists.{AllHold}
use Rattle.four_value.specs.Values.{same_value}
use Rattle.v_design.specs.Designs.{TestPlan}
use Rattle.v_design.specs.Grades.{samples}
use Rattle.v_design.specs.Plain.{fault_of}
use Rattle.kept_samples.specs.Plain.{sample_of}
use Rattle.fault_strobes.specs.Said.{Keeping}
use Rattle.between_slots.specs.Between.{state_through}
use Rattle.copy_overlay.specs.Faulty.{faulty_values}
use Rattle.lockstep_shards.proofs.window_strobes.Knowing.{design-rules, plan-rules}
use Rattle.lockstep_shards.specs.window_strobes.Watched.{IsObjectOf, objects-watched}
use Rattle.slot_strobes.specs.Counts.{samples_of}
use Rattle.slot_strobes.specs.Strobes.{IsGradingBehind}
use Rattle.slot_strobes.proofs.Seeing.{keeps-all, keeps-none}
use Rattle.slot_strobes.proofs.seen.keep_each.Goals as goal

pub compare-shown-requires-clause-watched : goal.compare-shown-requires-clause-watched
compare-shown-requires-clause-watched g c κs within =
    subst (λ (watched : List WatchedBit). AllHold (IsObjectOf g.N.World.design) watched)
    (ap (λ (p : TestPlan). p.watched) c.plan-plan.ensures.world ∙ sym (ap (map watched_bit) c.as_slice-watched.ensures))
    (objects-watched g.N.World.design g.N.World.plan.watched c.plan-plan.ensures.fits.watched)

pub own_bits-requires-clause-watched : goal.own_bits-requires-clause-watched
own_bits-requires-clause-watched g c κs within =
    subst (λ (watched : List WatchedBit). AllHold (IsObjectOf g.N.World.design) watched)
    (ap (λ (p : TestPlan). p.watched) c.plan-plan.ensures.world ∙ sym (ap (map watched_bit) c.as_slice-watched.ensures))
    (objects-watched g.N.World.design g.N.World.plan.watched c.plan-plan.ensures.fits.watched)

pub returns-then-shown : goal.returns-then-shown
returns-then-shown g c =
    let design = g.N.World.design in
    let plan = g.N.World.plan in
    let gone = c.args.window.now.before + c.args.slot in
    let good = (state_through design plan gone).values in
    let own = faulty_values good c.args.copy.now.values in
    let watched = ap (map watched_bit) c.as_slice-watched.ensures ∙ sym (ap (λ (p : TestPlan). p.watched) c.plan-plan.ensures.world) in
    keeps-none c.shards_go_in_lockstep.ensures design plan (design-rules design c.design-design.result.now c.design-design.ensures.world)
    (plan-rules plan c.plan-plan.result.now c.plan-plan.ensures.world) (fault_of c.args.fault) c.args.copy.now gone c.args.first c.args.end (map sample_of c.args.differs.now.items)
    c.requires.order c.requires.within c.requires.stands c.requires.grading
    (ap (λ bits. same_value (samples bits own) (samples bits good)) (sym watched) ∙ sym c.compare-shown.ensures.same ∙ c.if-shown.true)

pub returns : goal.returns
returns g c =
    let design = g.N.World.design in
    let plan = g.N.World.plan in
    let gone = c.args.window.now.before + c.args.slot in
    let good = (state_through design plan gone).values in
    let own = faulty_values good c.args.copy.now.values in
    let watched = ap (map watched_bit) c.as_slice-watched.ensures ∙ sym (ap (λ (p : TestPlan). p.watched) c.plan-plan.ensures.world) in
    let strobes = c.as_slice-strobes.ensures ∙ sym (ap (λ (p : TestPlan). p.strobes) c.plan-plan.ensures.world) in
    let bits = c.as_slice.ensures.value ∙ c.in_ok-bits.ensures ∙ ap (λ w. samples w own) watched in
    subst (λ l. IsGradingBehind design plan (fault_of c.args.fault) c.args.end (Keeping l))
    (sym (c.in_ok-push_samples.ensures ∙ (λ i. map sample_of c.args.differs.now.items ++ samples_of (bits i) (take (c.args.end - c.args.first) (drop c.args.first (strobes i))))))
    (keeps-all c.shards_go_in_lockstep.ensures design plan (design-rules design c.design-design.result.now c.design-design.ensures.world)
    (plan-rules plan c.plan-plan.result.now c.plan-plan.ensures.world) (fault_of c.args.fault) c.args.copy.now gone c.args.first c.args.end (map sample_of c.args.differs.now.items)
    c.requires.order c.requires.within c.requires.stands c.requires.grading
    (ap (λ bits. same_value (samples bits own) (samples bits good)) (sym watched) ∙ sym c.compare-shown.ensures.same ∙ c.if-shown.false))
