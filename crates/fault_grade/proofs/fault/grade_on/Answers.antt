-- The faulty machine from strobe to strobe, and to the end.
use Rattle.std.proofs.Common.{◌≡◌, ◌<◌, ◌≤◌, ◌+◌, ℕ, suc, List, [], ◌∷◌, Option, Some, None, length, get_or, drop, map, ap, sym, subst, ◌∙◌}
use Rattle.std.proofs.lemmas.List.{drop_more, drop_all}
use Rattle.vf_base.specs.declared.finding.End.{End}
use Rattle.vf_base.specs.Lists.{AllHold}
use Rattle.v_design.specs.Designs.{FlatDesign, Machine, StuckAt, TestPlan, faulty_machine}
use Rattle.v_design.specs.Plain.{grade_of}
use Rattle.strobe_detect.specs.Graders.{GraderState}
use Rattle.grade_laws.specs.Grading.{StopsWithin, times}
use Rattle.machine.specs.Standing.{machine_kept}
use Rattle.machine.specs.Ticks.{raised_by}
use Rattle.machine.specs.declared.parts.Machine.{Machine as Simulated}
use Rattle.kept_samples.specs.declared.kept.Sample.{Sample}
use Rattle.fault_grade.specs.Benches.{IsObjectOf}
use Rattle.fault_grade.specs.Gradings.{IsGradingAt, LeadsTo, last_before}
use Rattle.fault_grade.specs.Samples.{samples_kept}
use Rattle.fault_grade.specs.Stops.{race_if}
use Rattle.fault_grade.specs.Ticks.{IsTicked, TickedAt, TicksPast, steps_before, graded_before, last_bound}
use Rattle.kept_samples.specs.Plain.{sample_of}
use Rattle.fault_grade.specs.Beside.{early-late}
use Rattle.fault_grade.proofs.Gradings.{reached-sample, early-sample, sized-sample, reached-last}
use Rattle.fault_grade.proofs.Ticks.{ticked-start, ticked-next, grading-ticked}
use Rattle.fault_grade.proofs.fault.grade_on.Goals as goal

-- the sample that is next
at-sample : (design : FlatDesign) (plan : TestPlan) (fault : StuckAt) (m : Simulated) (grader : GraderState) (items seen : List Sample) (i : ℕ) (sample : Sample) → seen ≡ items →
    IsGradingAt design plan fault m (map sample_of (drop i items)) grader → i < length seen → sample ≡ get_or seen i sample →
    IsGradingAt design plan fault m (sample_of sample ∷ map sample_of (drop (i + 1) items)) grader
at-sample design plan fault m grader items seen i sample same at low is =
    subst (λ next. IsGradingAt design plan fault m (map sample_of next) grader)
    (drop_more items i sample (subst (λ (l : List Sample). i < length l) same low) ∙ ap (λ x. x ∷ drop (i + 1) items) (sym (is ∙ ap (λ (l : List Sample). get_or l i sample) same))) at

-- what is watched are objects of the machine's design
watched-there : (design : FlatDesign) (plan : TestPlan) (fault : StuckAt) (m : Simulated) (grader : GraderState) → machine_kept m ≡ faulty_machine design fault → grader.watched ≡ plan.watched →
    AllHold (IsObjectOf design) plan.watched → AllHold (IsObjectOf (machine_kept m).design) grader.watched
watched-there design plan fault m grader same is all =
    subst (λ (machine : Machine). AllHold (IsObjectOf machine.design) grader.watched) (sym same) (subst (AllHold (IsObjectOf design)) (sym is) all)

-- an answer that is known
led : (design : FlatDesign) (plan : TestPlan) (fault : StuckAt) (m : Simulated) (grader : GraderState) (items : List Sample) (i : ℕ) (end known : Option End) → end ≡ known →
    LeadsTo design plan fault (map sample_of (drop (i + 1) items)) end m grader → LeadsTo design plan fault (map sample_of (drop (i + 1) items)) known m grader
led design plan fault m grader items i end known is l = subst (λ e. LeadsTo design plan fault (map sample_of (drop (i + 1) items)) e m grader) is l

-- after the last sample
at-end : (design : FlatDesign) (plan : TestPlan) (fault : StuckAt) (m : Simulated) (grader : GraderState) (items : List Sample) (i : ℕ) →
    IsGradingAt design plan fault m (map sample_of (drop i items)) grader → length items ≤ i → IsGradingAt design plan fault m [] grader
at-end design plan fault m grader items i at past = subst (λ next. IsGradingAt design plan fault m (map sample_of next) grader) (drop_all i items past) at

-- the counter at the sample that is next
ticks-at : (start bound : ℕ) (m : Simulated) (items seen : List Sample) (i : ℕ) (sample : Sample) (counter : ℕ) → seen ≡ items → TickedAt start bound m (times (map sample_of (drop i items))) counter →
    i < length seen → sample ≡ get_or seen i sample → IsTicked start (suc sample.time) m counter
ticks-at start bound m items seen i sample counter same at low is =
    ticked-next start bound sample.time m (times (map sample_of (drop (i + 1) items))) counter
    (subst (λ next. TickedAt start bound m (times (map sample_of next)) counter)
    (drop_more items i sample (subst (λ (l : List Sample). i < length l) same low) ∙ ap (λ x. x ∷ drop (i + 1) items) (sym (is ∙ ap (λ (l : List Sample). get_or l i sample) same))) at)

past-known : (start strobe : ℕ) (old new : Simulated) (after : ℕ) (end known : Option End) → end ≡ known → TicksPast start strobe old end new after → TicksPast start strobe old known new after
past-known start strobe old new after end known is t = subst (λ e. TicksPast start strobe old e new after) is t

pub strobes-init : goal.strobes-init
strobes-init g c = record {
  goes = λ of. of.at;
  ticks = λ of start t. ticked-start start (last_bound c.args.good.now.race c.args.end) c.args.machine.now (times (samples_kept c.args.good.now)) c.args.steps.now t;
}

pub pass_strobe-requires-clause-reached : goal.pass_strobe-requires-clause-reached
pass_strobe-requires-clause-reached g c =
    let of = c.requires in
    let items = c.args.good.now.samples.items in
    let at = at-sample of.design of.plan of.fault c.strobes.machine c.strobes.grader items c.deref-sample-items.result.now c.strobes.sample-index c.sample-item.result
    c.deref-sample-items.ensures.value
    (c.strobes.invariant.goes of) c.strobes-test.true c.sample-item.is in
    reached-sample of.design of.plan of.fault c.strobes.machine c.strobes.machine (sample_of c.sample-item.result) (map sample_of (drop (c.strobes.sample-index + 1) items)) c.strobes.grader at

pub pass_strobe-requires-clause-limit : goal.pass_strobe-requires-clause-limit
pass_strobe-requires-clause-limit g c =
    let of = c.requires in
    let items = c.args.good.now.samples.items in
    let at = at-sample of.design of.plan of.fault c.strobes.machine c.strobes.grader items c.deref-sample-items.result.now c.strobes.sample-index c.sample-item.result
    c.deref-sample-items.ensures.value
    (c.strobes.invariant.goes of) c.strobes-test.true c.sample-item.is in
    early-sample of.design of.plan of.fault c.strobes.machine c.strobes.machine (sample_of c.sample-item.result) (map sample_of (drop (c.strobes.sample-index + 1) items)) c.strobes.grader at of.rules

pub pass_strobe-requires-clause-kept : goal.pass_strobe-requires-clause-kept
pass_strobe-requires-clause-kept g c =
    let of = c.requires in
    let items = c.args.good.now.samples.items in
    let at = at-sample of.design of.plan of.fault c.strobes.machine c.strobes.grader items c.deref-sample-items.result.now c.strobes.sample-index c.sample-item.result
    c.deref-sample-items.ensures.value
    (c.strobes.invariant.goes of) c.strobes-test.true c.sample-item.is in
    sized-sample of.design of.plan of.fault c.strobes.machine c.strobes.machine (sample_of c.sample-item.result) (map sample_of (drop (c.strobes.sample-index + 1) items)) c.strobes.grader at

pub pass_strobe-requires-clause-watched : goal.pass_strobe-requires-clause-watched
pass_strobe-requires-clause-watched g c =
    let of = c.requires in
    let at = c.strobes.invariant.goes of in
    watched-there of.design of.plan of.fault c.strobes.machine c.strobes.grader at.same_machine at.grading.watched of.watched

pub returns-in-Some-clause-grade : goal.returns-in-Some-clause-grade
returns-in-Some-clause-grade g c = λ of.
    let items = c.args.good.now.samples.items in
    let at = at-sample of.design of.plan of.fault c.strobes.machine c.strobes.grader items c.deref-sample-items.result.now c.strobes.sample-index c.sample-item.result
    c.deref-sample-items.ensures.value
    (c.strobes.invariant.goes of) c.strobes-test.true c.sample-item.is in
    led of.design of.plan of.fault c.pass_strobe.new.machine c.pass_strobe.new.grader items c.strobes.sample-index c.in_ok-end.field-0 (Some c.in-Some.end) c.in-Some.is
    (c.in_ok-end.ensures.passes of.design of.plan of.fault (map sample_of (drop (c.strobes.sample-index + 1) items)) at)

pub strobes-preserved : goal.strobes-preserved
strobes-preserved g c = record {
  goes = λ of.
      let items = c.args.good.now.samples.items in
      let at = at-sample of.design of.plan of.fault c.strobes.machine c.strobes.grader items c.deref-sample-items.result.now c.strobes.sample-index c.sample-item.result
      c.deref-sample-items.ensures.value
      (c.strobes.invariant.goes of) c.strobes-test.true c.sample-item.is in
      led of.design of.plan of.fault c.pass_strobe.new.machine c.pass_strobe.new.grader items c.strobes.sample-index c.in_ok-end.field-0 None c.in_default.is
      (c.in_ok-end.ensures.passes of.design of.plan of.fault (map sample_of (drop (c.strobes.sample-index + 1) items)) at);
  ticks = λ of start t.
      let items = c.args.good.now.samples.items in
      let next = map sample_of (drop (c.strobes.sample-index + 1) items) in
      let at = at-sample of.design of.plan of.fault c.strobes.machine c.strobes.grader items c.deref-sample-items.result.now c.strobes.sample-index c.sample-item.result
      c.deref-sample-items.ensures.value
      (c.strobes.invariant.goes of) c.strobes-test.true c.sample-item.is in
      grading-ticked of.design of.plan of.fault c.args.good.now.race c.args.end c.strobes.machine c.pass_strobe.new.machine (sample_of c.sample-item.result) next c.strobes.grader start
      c.pass_strobe.new.steps at of.end_is of.stop_is
      (past-known start c.sample-item.result.time c.strobes.machine c.pass_strobe.new.machine c.pass_strobe.new.steps c.in_ok-end.field-0 None c.in_default.is
      (c.in_ok-end.ensures.ticks start
      (ticks-at start (last_bound c.args.good.now.race c.args.end) c.strobes.machine items c.deref-sample-items.result.now c.strobes.sample-index c.sample-item.result c.strobes.steps
      c.deref-sample-items.ensures.value (c.strobes.invariant.ticks of start t) c.strobes-test.true c.sample-item.is)));
}

pub returns-in-Some-clause-ticks : goal.returns-in-Some-clause-ticks
returns-in-Some-clause-ticks g c = λ of start t.
    let items = c.args.good.now.samples.items in
    let at = at-sample of.design of.plan of.fault c.strobes.machine c.strobes.grader items c.deref-sample-items.result.now c.strobes.sample-index c.sample-item.result
    c.deref-sample-items.ensures.value
    (c.strobes.invariant.goes of) c.strobes-test.true c.sample-item.is in
    past-known start c.sample-item.result.time c.strobes.machine c.pass_strobe.new.machine c.pass_strobe.new.steps c.in_ok-end.field-0 (Some c.in-Some.end) c.in-Some.is
    (c.in_ok-end.ensures.ticks start
    (ticks-at start (last_bound c.args.good.now.race c.args.end) c.strobes.machine items c.deref-sample-items.result.now c.strobes.sample-index c.sample-item.result c.strobes.steps
    c.deref-sample-items.ensures.value (c.strobes.invariant.ticks of start t) c.strobes-test.true c.sample-item.is))
    of.plan.end at.grading.beside.in_time.0
    ∙ ap (λ machine. raised_by (steps_before machine (graded_before of.plan.end (grade_of c.in-Some.end))) start) at.same_machine

pub finish-requires-clause-reached : goal.finish-requires-clause-reached
finish-requires-clause-reached g c = λ time last.
    let of = c.requires in
    let at = at-end of.design of.plan of.fault c.strobes.machine c.strobes.grader c.args.good.now.samples.items c.strobes.sample-index (c.strobes.invariant.goes of)
    (subst (λ (l : List Sample). length l ≤ c.strobes.sample-index) c.deref-sample-items.ensures.value c.strobes-test.false) in
    reached-last of.design of.plan of.fault c.strobes.machine c.strobes.machine c.strobes.grader at c.args.good.now.race time of.stop_is (ap (last_before c.args.good.now.race) of.end_is ∙ last)

pub finish-requires-clause-limit : goal.finish-requires-clause-limit
finish-requires-clause-limit g c = λ time last.
    let of = c.requires in early-late of.plan c.args.good.now.race time of.rules of.within (ap (last_before c.args.good.now.race) of.end_is ∙ last)

pub returns-clause-grade : goal.returns-clause-grade
returns-clause-grade g c = λ of.
    let at = at-end of.design of.plan of.fault c.strobes.machine c.strobes.grader c.args.good.now.samples.items c.strobes.sample-index (c.strobes.invariant.goes of)
    (subst (λ (l : List Sample). length l ≤ c.strobes.sample-index) c.deref-sample-items.ensures.value c.strobes-test.false) in
    c.in_ok-ended.ensures.grade of.design of.plan of.fault of.end_is at of.stop_is of.within

pub returns-clause-ticks : goal.returns-clause-ticks
returns-clause-ticks g c = λ of start t.
    let at = at-end of.design of.plan of.fault c.strobes.machine c.strobes.grader c.args.good.now.samples.items c.strobes.sample-index (c.strobes.invariant.goes of)
    (subst (λ (l : List Sample). length l ≤ c.strobes.sample-index) c.deref-sample-items.ensures.value c.strobes-test.false) in
    let run = c.strobes.invariant.ticks of start t in
    c.in_ok-ended.ensures.ticks start run.since run.within (subst (λ end. StopsWithin end (race_if c.args.good.now.race)) of.end_is of.within) at.grading.none_hard run.ticked
    ∙ (λ i. raised_by (steps_before (at.same_machine i) (graded_before (sym of.end_is i) (grade_of c.in_ok-ended.ended))) start)
