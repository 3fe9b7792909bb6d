-- The good machine from strobe to strobe.
use Rattle.std.proofs.Common.{◌≡◌, ◌<◌, ◌+◌, ℕ, suc, length, List, [], ◌∷◌, Some, None, get_or, drop, map, arith, ap, sym, subst, ◌∙◌}
use Rattle.std.proofs.lemmas.List.{drop_more, drop_all}
use Rattle.vf_base.specs.Base.{watched_bit}
use Rattle.vf_base.specs.Lists.{AllHold}
use Rattle.v_design.specs.Designs.{FlatDesign, Machine, TestPlan}
use Rattle.v_design.specs.PlainDesigns.{plan_of}
use Rattle.v_design.specs.Grades.{samples, Sample}
use Rattle.v_design.specs.RulesHold.{plan_rules_hold}
use Rattle.strobe_detect.specs.Graders.{IsWatched}
use Rattle.machine.specs.Standing.{state_kept}
use Rattle.machine.specs.Ticks.{raised_by}
use Rattle.machine.specs.declared.parts.Machine.{Machine as Simulated}
use Rattle.kept_samples.specs.Plain.{sample_of}
use Rattle.fault_grade.specs.Beside.{early, answered, plan-watched}
use Rattle.fault_grade.specs.Gradings.{SamplesAt}
use Rattle.fault_grade.specs.Ticks.{IsTicked, TickedAt, steps_by}
use Rattle.fault_grade.proofs.Strobes.{map-more, reached-strobe, reached-end, early-strobe, samples-more, samples-stopped, samples-end}
use Rattle.fault_grade.proofs.Ticks.{ticked-start, ticked-next, ticked-later, ticked-known, ticked-end, samples-ticked}
use Rattle.fault_grade.proofs.good.show_on.Goals as goal

-- the strobe that is next
at-strobe : (design : FlatDesign) (plan : TestPlan) (m : Simulated) (shown : List Sample) (items : List ℕ) (i : ℕ) → SamplesAt design plan m shown (drop i items) → i < length items →
    SamplesAt design plan m shown (get_or items i 0 ∷ drop (i + 1) items)
at-strobe design plan m shown items i at low = subst (λ next. SamplesAt design plan m shown next) (drop_more items i 0 low) at

-- the counter at that strobe
ticks-at : (start bound : ℕ) (m : Simulated) (items : List ℕ) (i counter : ℕ) → TickedAt start bound m (drop i items) counter → i < length items → IsTicked start (suc (get_or items i 0)) m counter
ticks-at start bound m items i counter at low =
    ticked-next start bound (get_or items i 0) m (drop (i + 1) items) counter (subst (λ next. TickedAt start bound m next counter) (drop_more items i 0 low) at)

pub strobes-init : goal.strobes-init
strobes-init g c = record {
  samples = λ of.
      subst (λ items. SamplesAt of.design (plan_of c.args.plan.now) c.args.machine.now (map sample_of items) c.as_slice-strobe-items.result.now) (sym c.new-samples.ensures.items)
      (subst (λ strobes. SamplesAt of.design (plan_of c.args.plan.now) c.args.machine.now [] strobes) (sym c.as_slice-strobe-items.ensures) of.at);
  ticks = λ of start t. ticked-start start (suc (plan_of c.args.plan.now).end) c.args.machine.now c.as_slice-strobe-items.result.now c.args.steps.now t;
}

pub advance-requires-clause-reached : goal.advance-requires-clause-reached
advance-requires-clause-reached g c =
    let of = c.requires in
    let plan = plan_of c.args.plan.now in
    let at = at-strobe of.design plan c.strobes.machine (map sample_of c.strobes.samples.items) c.as_slice-strobe-items.result.now c.strobes.strobe-index
    (c.strobes.invariant.samples of) c.strobes-test.true in
    reached-strobe of.design plan c.strobes.machine c.strobes.machine (map sample_of c.strobes.samples.items) (get_or c.as_slice-strobe-items.result.now c.strobes.strobe-index 0)
    (drop (c.strobes.strobe-index + 1) c.as_slice-strobe-items.result.now) at

pub advance-requires-clause-limit : goal.advance-requires-clause-limit
advance-requires-clause-limit g c =
    let of = c.requires in
    let plan = plan_of c.args.plan.now in
    let at = at-strobe of.design plan c.strobes.machine (map sample_of c.strobes.samples.items) c.as_slice-strobe-items.result.now c.strobes.strobe-index
    (c.strobes.invariant.samples of) c.strobes-test.true in
    early-strobe of.design plan c.strobes.machine c.strobes.machine (map sample_of c.strobes.samples.items)
    (get_or c.as_slice-strobe-items.result.now c.strobes.strobe-index 0)
    (drop (c.strobes.strobe-index + 1) c.as_slice-strobe-items.result.now) at (plan_rules_hold plan c.args.plan.now.rules)

pub returns-in-Some-clause-good : goal.returns-in-Some-clause-good
returns-in-Some-clause-good g c = λ of.
    let plan = plan_of c.args.plan.now in
    let strobe = get_or c.as_slice-strobe-items.result.now c.strobes.strobe-index 0 in
    let at = at-strobe of.design plan c.strobes.machine (map sample_of c.strobes.samples.items) c.as_slice-strobe-items.result.now c.strobes.strobe-index
    (c.strobes.invariant.samples of) c.strobes-test.true in
    c.shown_by.ensures of.design plan
    (samples-stopped of.design plan c.strobes.machine c.advance.new.machine (map sample_of c.strobes.samples.items) strobe
    (drop (c.strobes.strobe-index + 1) c.as_slice-strobe-items.result.now) at c.in-Some.stop
    (answered strobe c.strobes.machine c.advance.new.machine c.in_ok-stop.field-0 (Some c.in-Some.stop) c.in-Some.is c.in_ok-stop.ensures.advanced))

pub watched_bits-requires : goal.watched_bits-requires
watched_bits-requires g c =
    let of = c.requires in
    let plan = plan_of c.args.plan.now in
    let strobe = get_or c.as_slice-strobe-items.result.now c.strobes.strobe-index 0 in
    let advanced = answered strobe c.strobes.machine c.advance.new.machine c.in_ok-stop.field-0 None c.in_default.is c.in_ok-stop.ensures.advanced in
    let design_is = ap (λ (machine : Machine). machine.design) (advanced.0 ∙ (c.strobes.invariant.samples of).same_machine) in
    subst (λ watched. AllHold (IsWatched (state_kept c.advance.new.machine).values) (map watched_bit watched)) (sym c.as_slice.ensures)
    (plan-watched of.design plan c.advance.new.machine of.of_design design_is advanced.1.2.standing)

pub strobes-preserved : goal.strobes-preserved
strobes-preserved g c = record {
  samples = λ of.
      let plan = plan_of c.args.plan.now in
      let strobe = get_or c.as_slice-strobe-items.result.now c.strobes.strobe-index 0 in
      let later = drop (c.strobes.strobe-index + 1) c.as_slice-strobe-items.result.now in
      let at = at-strobe of.design plan c.strobes.machine (map sample_of c.strobes.samples.items) c.as_slice-strobe-items.result.now c.strobes.strobe-index
      (c.strobes.invariant.samples of) c.strobes-test.true in
      let advanced = answered strobe c.strobes.machine c.advance.new.machine c.in_ok-stop.field-0 None c.in_default.is c.in_ok-stop.ensures.advanced in
      let bits_are : c.in_ok-bits.bits.items ≡ samples plan.watched (state_kept c.advance.new.machine).values =
      c.in_ok-bits.ensures ∙ ap (λ watched. samples (map watched_bit watched) (state_kept c.advance.new.machine).values) c.as_slice.ensures in
      subst (λ shown. SamplesAt of.design plan c.advance.new.machine shown later)
      (sym (ap (map sample_of) c.in_ok-push.ensures.items ∙ map-more sample_of c.strobes.samples.items _))
      (samples-more of.design plan c.strobes.machine c.advance.new.machine (map sample_of c.strobes.samples.items) strobe later at c.from_vec.result advanced
      (c.from_vec.ensures ∙ bits_are));
  ticks = λ of start t.
      let plan = plan_of c.args.plan.now in
      let strobe = get_or c.as_slice-strobe-items.result.now c.strobes.strobe-index 0 in
      let later = drop (c.strobes.strobe-index + 1) c.as_slice-strobe-items.result.now in
      let at = at-strobe of.design plan c.strobes.machine (map sample_of c.strobes.samples.items) c.as_slice-strobe-items.result.now c.strobes.strobe-index
      (c.strobes.invariant.samples of) c.strobes-test.true in
      let run = ticks-at start (suc plan.end) c.strobes.machine c.as_slice-strobe-items.result.now c.strobes.strobe-index c.strobes.steps (c.strobes.invariant.ticks of start t) c.strobes-test.true in
      samples-ticked of.design plan c.strobes.machine c.advance.new.machine (map sample_of c.strobes.samples.items) strobe later start c.advance.new.steps at
      (ticked-known start strobe c.advance.new.steps c.strobes.machine c.advance.new.machine c.in_ok-stop.field-0 None c.in_default.is (c.in_ok-stop.ensures.ticks start run)).1;
}

pub advance-requires-2-clause-reached : goal.advance-requires-2-clause-reached
advance-requires-2-clause-reached g c =
    reached-end c.requires.design (plan_of c.args.plan.now) c.strobes.machine (map sample_of c.strobes.samples.items) _ (c.strobes.invariant.samples c.requires)

pub advance-requires-2-clause-limit : goal.advance-requires-2-clause-limit
advance-requires-2-clause-limit g c = early (plan_of c.args.plan.now) c.args.plan.now.end (plan_rules_hold (plan_of c.args.plan.now) c.args.plan.now.rules) (omega arith)

pub returns-clause-good : goal.returns-clause-good
returns-clause-good g c = λ of.
    let plan = plan_of c.args.plan.now in
    let at = subst (λ next. SamplesAt of.design plan c.strobes.machine (map sample_of c.strobes.samples.items) next)
    (drop_all c.strobes.strobe-index c.as_slice-strobe-items.result.now c.strobes-test.false) (c.strobes.invariant.samples of) in
    c.shown_by-2.ensures of.design plan
    (samples-end of.design plan c.strobes.machine c.advance-2.new.machine (map sample_of c.strobes.samples.items) c.in_ok-stop-2.stop at c.in_ok-stop-2.ensures.advanced)

pub returns-in-Some-clause-ticks : goal.returns-in-Some-clause-ticks
returns-in-Some-clause-ticks g c = λ of start t.
    let plan = plan_of c.args.plan.now in
    let strobe = get_or c.as_slice-strobe-items.result.now c.strobes.strobe-index 0 in
    let later = drop (c.strobes.strobe-index + 1) c.as_slice-strobe-items.result.now in
    let at = at-strobe of.design plan c.strobes.machine (map sample_of c.strobes.samples.items) c.as_slice-strobe-items.result.now c.strobes.strobe-index
    (c.strobes.invariant.samples of) c.strobes-test.true in
    let run = ticks-at start (suc plan.end) c.strobes.machine c.as_slice-strobe-items.result.now c.strobes.strobe-index c.strobes.steps (c.strobes.invariant.ticks of start t) c.strobes-test.true in
    ticked-known start strobe c.advance.new.steps c.strobes.machine c.advance.new.machine c.in_ok-stop.field-0 (Some c.in-Some.stop) c.in-Some.is (c.in_ok-stop.ensures.ticks start run) plan.end
    at.sampling.in_time.0
    ∙ ap (λ machine. raised_by (steps_by machine plan.end) start) at.same_machine

pub returns-clause-ticks : goal.returns-clause-ticks
returns-clause-ticks g c = λ of start t.
    let plan = plan_of c.args.plan.now in
    let run = c.strobes.invariant.ticks of start t in
    ticked-end start plan.end c.advance-2.new.steps c.strobes.machine c.advance-2.new.machine c.in_ok-stop-2.stop
    (c.in_ok-stop-2.ensures.ticks start (ticked-later start run.since (suc plan.end) c.strobes.steps c.strobes.machine run.within run.ticked))
    ∙ ap (λ machine. raised_by (steps_by machine plan.end) start) (c.strobes.invariant.samples of).same_machine
