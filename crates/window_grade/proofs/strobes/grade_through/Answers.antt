-- The faulty machine from strobe to strobe, and to the window's end.
use Rattle.std.proofs.Common.{◌+◌, drop, map, refl, subst, ◌∙◌}
use Rattle.vf_base.specs.Base.{watched_bit}
use Rattle.fault_strobes.specs.Said.{keeps}
use Rattle.fault_strobes.specs.Shown.{said_of}
use Rattle.kept_samples.specs.Plain.{sample_of}
use Rattle.window_grade.specs.Grading.{GradingLeads}
use Rattle.window_grade.proofs.Slots.{stays-more}
use Rattle.window_grade.proofs.Passing.{window-leads}
use Rattle.window_grade.proofs.Through.{way-begins, can-pass, way-on, way-ticks, way-ends, none-left, can-run-on, rest-ticks}
use Rattle.window_grade.proofs.strobes.grade_through.Goals as goal

pub strobes-init : goal.strobes-init
strobes-init g c = record {
  way = way-begins c.own_steps_rise.ensures (map watched_bit c.args.watched.now) c.args.samples.now c.args.until c.args.steps.now c.args.beside.now c.args.machine.now (said_of c.args.strobed.now);
  kind = refl;
  stays = λ of. record { same_machine = refl; standing = of.at.at.standing; notes = refl };
}

pub pass_strobe-requires : goal.pass_strobe-requires
pass_strobe-requires g c =
    let of = c.requires in
    can-pass c.own_steps_rise.ensures of.design of.plan of.fault (keeps (said_of c.args.strobed.now)) of.later c.args.until c.strobes.sample-index c.args.samples.now c.args.beside.now of.now c.args.steps.now c.strobes.steps c.strobes.machine
    (said_of c.strobes.strobed) (c.strobes.invariant.way of) c.sample-item.result c.strobes-test.true c.sample-item.is
    (map watched_bit c.args.watched.now) of.watched_are

pub returns-in-Some-clause-stays : goal.returns-in-Some-clause-stays
returns-in-Some-clause-stays g c = stays-more _ _ _ (c.strobes.invariant.stays c.requires) c.in_ok-end.ensures.stays

pub returns-in-Some-clause-kind : goal.returns-in-Some-clause-kind
returns-in-Some-clause-kind g c = c.in_ok-end.ensures.kind ∙ c.strobes.invariant.kind

pub returns-in-Some-clause-grading : goal.returns-in-Some-clause-grading
returns-in-Some-clause-grading g c = λ of.
    way-ends c.own_steps_rise.ensures of.design of.plan of.fault (keeps (said_of c.args.strobed.now)) of.later c.args.until c.strobes.sample-index c.args.samples.now c.args.beside.now of.now c.args.steps.now c.strobes.steps c.strobes.machine
    (said_of c.strobes.strobed) (c.strobes.invariant.way of) c.sample-item.result c.strobes-test.true c.sample-item.is
    c.pass_strobe.new.machine (said_of c.pass_strobe.new.strobed) c.in-Some.end
    (subst (λ end. GradingLeads of.design of.plan of.fault c.sample-item.result.time (map sample_of (drop (c.strobes.sample-index + 1) c.args.samples.now)) of.later end c.pass_strobe.new.machine
    (said_of c.pass_strobe.new.strobed)) c.in-Some.is
    (c.in_ok-end.ensures.grading (can-pass c.own_steps_rise.ensures of.design of.plan of.fault (keeps (said_of c.args.strobed.now)) of.later c.args.until c.strobes.sample-index c.args.samples.now c.args.beside.now of.now c.args.steps.now c.strobes.steps c.strobes.machine
    (said_of c.strobes.strobed) (c.strobes.invariant.way of) c.sample-item.result c.strobes-test.true c.sample-item.is
    (map watched_bit c.args.watched.now) of.watched_are)))

pub returns-in-Some-clause-ticks : goal.returns-in-Some-clause-ticks
returns-in-Some-clause-ticks g c = λ of.
    way-ticks c.own_steps_rise.ensures of.design of.plan of.fault (keeps (said_of c.args.strobed.now)) of.later c.args.until c.strobes.sample-index c.args.samples.now c.args.beside.now of.now c.args.steps.now c.strobes.steps c.strobes.machine
    (said_of c.strobes.strobed) (c.strobes.invariant.way of) c.sample-item.result c.strobes-test.true c.sample-item.is
    c.pass_strobe.new.steps
    (c.in_ok-end.ensures.ticks (can-pass c.own_steps_rise.ensures of.design of.plan of.fault (keeps (said_of c.args.strobed.now)) of.later c.args.until c.strobes.sample-index c.args.samples.now c.args.beside.now of.now c.args.steps.now c.strobes.steps c.strobes.machine
    (said_of c.strobes.strobed) (c.strobes.invariant.way of) c.sample-item.result c.strobes-test.true c.sample-item.is
    (map watched_bit c.args.watched.now) of.watched_are))

pub strobes-preserved : goal.strobes-preserved
strobes-preserved g c = record {
  kind = c.in_ok-end.ensures.kind ∙ c.strobes.invariant.kind;
  stays = λ of. stays-more _ _ _ (c.strobes.invariant.stays of) c.in_ok-end.ensures.stays;
  way = λ of.
      way-on c.own_steps_rise.ensures of.design of.plan of.fault (keeps (said_of c.args.strobed.now)) of.later c.args.until c.strobes.sample-index c.args.samples.now c.args.beside.now of.now c.args.steps.now c.strobes.steps c.strobes.machine
      (said_of c.strobes.strobed) (c.strobes.invariant.way of) c.sample-item.result c.strobes-test.true c.sample-item.is
      c.pass_strobe.new.steps c.pass_strobe.new.machine (said_of c.pass_strobe.new.strobed)
      (subst (λ end. GradingLeads of.design of.plan of.fault c.sample-item.result.time (map sample_of (drop (c.strobes.sample-index + 1) c.args.samples.now)) of.later end c.pass_strobe.new.machine
      (said_of c.pass_strobe.new.strobed)) c.in_default.is
      (c.in_ok-end.ensures.grading (can-pass c.own_steps_rise.ensures of.design of.plan of.fault (keeps (said_of c.args.strobed.now)) of.later c.args.until c.strobes.sample-index c.args.samples.now c.args.beside.now of.now c.args.steps.now c.strobes.steps c.strobes.machine
      (said_of c.strobes.strobed) (c.strobes.invariant.way of) c.sample-item.result c.strobes-test.true c.sample-item.is
      (map watched_bit c.args.watched.now) of.watched_are)))
      c.in_ok-end.ensures.kind
      (c.in_ok-end.ensures.ticks (can-pass c.own_steps_rise.ensures of.design of.plan of.fault (keeps (said_of c.args.strobed.now)) of.later c.args.until c.strobes.sample-index c.args.samples.now c.args.beside.now of.now c.args.steps.now c.strobes.steps c.strobes.machine
      (said_of c.strobes.strobed) (c.strobes.invariant.way of) c.sample-item.result c.strobes-test.true c.sample-item.is
      (map watched_bit c.args.watched.now) of.watched_are));
}

pub run_to-requires : goal.run_to-requires
run_to-requires g c =
    let of = c.requires in
    can-run-on c.own_steps_rise.ensures of.design of.plan of.fault (keeps (said_of c.args.strobed.now)) of.later c.args.until c.strobes.sample-index c.args.samples.now c.args.beside.now of.now c.args.steps.now c.strobes.steps c.strobes.machine
    (said_of c.strobes.strobed) (c.strobes.invariant.way of) c.strobes-test.false of.after of.goes_on of.within of.early

pub returns-clause-stays : goal.returns-clause-stays
returns-clause-stays g c = stays-more _ _ _ (c.strobes.invariant.stays c.requires) c.in_ok-end-2.ensures.stays

pub returns-clause-grading : goal.returns-clause-grading
returns-clause-grading g c = λ of.
    let left = none-left c.own_steps_rise.ensures of.design of.plan of.fault (keeps (said_of c.args.strobed.now)) of.later c.args.until c.strobes.sample-index c.args.samples.now c.args.beside.now of.now c.args.steps.now c.strobes.steps c.strobes.machine
    (said_of c.strobes.strobed) (c.strobes.invariant.way of) c.strobes-test.false in
    window-leads c.runs_go_on.ensures c.strobed_gradings_go_on.ensures c.strobed_gradings_end.ensures of.design of.plan of.fault left.now c.strobes.machine c.run_to.new.machine of.later
    (said_of c.strobes.strobed) c.args.until left.at of.after of.goes_on c.in_ok-end-2.end
    (c.in_ok-end-2.ensures.run (can-run-on c.own_steps_rise.ensures of.design of.plan of.fault (keeps (said_of c.args.strobed.now)) of.later c.args.until c.strobes.sample-index c.args.samples.now c.args.beside.now of.now c.args.steps.now c.strobes.steps c.strobes.machine
    (said_of c.strobes.strobed) (c.strobes.invariant.way of) c.strobes-test.false of.after of.goes_on of.within of.early))

pub returns-clause-ticks : goal.returns-clause-ticks
returns-clause-ticks g c = λ of.
    rest-ticks c.own_steps_rise.ensures of.design of.plan of.fault (keeps (said_of c.args.strobed.now)) of.later c.args.until c.strobes.sample-index c.args.samples.now c.args.beside.now of.now c.args.steps.now c.strobes.steps c.strobes.machine
    (said_of c.strobes.strobed) (c.strobes.invariant.way of) c.strobes-test.false c.run_to.new.steps
    (c.in_ok-end-2.ensures.ticks (can-run-on c.own_steps_rise.ensures of.design of.plan of.fault (keeps (said_of c.args.strobed.now)) of.later c.args.until c.strobes.sample-index c.args.samples.now c.args.beside.now of.now c.args.steps.now c.strobes.steps c.strobes.machine
    (said_of c.strobes.strobed) (c.strobes.invariant.way of) c.strobes-test.false of.after of.goes_on of.within of.early))
