-- So many steps are taken.
use Rattle.std.proofs.Common.{◌-◌, ◌≤◌, ◌^◌, refl, sym, subst, true, false, arith}
use Rattle.cert_laws.specs.Replays.{step_on}
use Rattle.cert_replay.specs.Kept.{Follows, event_by}
use Rattle.cert_replay.proofs.Going.{same-run, same-twice, step-time}
use Rattle.cert_replay.proofs.Lines.{Stepping, stepping-goes, line-none, line-fails, line-goes, line-far}
use Rattle.cert_replay.proofs.replaying.Replaying.step.Goals as goal

pub steps-init : goal.steps-init
steps-init g c = record {
  same = same-run c.args.self.now;
  low = c.requires.low;
  stepping = λ machine replay k. record { now = replay; rest_is = refl; keeps = k };
}

pub step_once-requires-clause-replaying : goal.step_once-requires-clause-replaying
step_once-requires-clause-replaying g c =
    let is = c.requires.replaying in
    let s = c.steps.invariant.stepping is.machine is.replay is.keeps in
    record { machine = is.machine; replay = s.now; keeps = s.keeps }

pub step_once-requires-clause-low : goal.step_once-requires-clause-low
step_once-requires-clause-low g c = c.steps.invariant.low

pub returns-then-count-eq0 : goal.returns-then-count-eq0
returns-then-count-eq0 g c = line-none c.args.stepper c.args.process c.args.count c.args.self.now c.if-count-eq0.true

pub returns-in_default : goal.returns-in_default
returns-in_default g c = line-far c.args.stepper c.args.process c.args.count c.args.self.now (omega (arith, c.in_default.ensures))

pub returns-then-not-branch : goal.returns-then-not-branch
returns-then-not-branch g c =
    let stepper = c.args.stepper in
    let mid = c.steps.self in
    let new = c.step_once.new.self in
    let same = c.in-Ok.ensures.1 in
    let one : Follows (λ machine replay. step_on machine (event_by stepper c.in-Ok.number) replay) false mid new =
    subst (λ b. Follows (λ machine replay. step_on machine (event_by stepper c.in-Ok.number) replay) b mid new) c.if-not-branch.true c.in_ok-step_once.ensures in
    line-fails stepper c.args.process c.args.count c.steps.left c.args.self.now mid new c.steps-test.true (same-twice c.args.self.now mid new c.steps.invariant.same one.same)
    (subst (λ n. Follows (λ machine replay. step_on machine (event_by stepper n) replay) false mid new) same one)
    (λ machine replay k. subst (λ n. Stepping machine (event_by stepper n) c.args.count c.steps.left replay mid) same (c.steps.invariant.stepping machine replay k))

pub steps-preserved : goal.steps-preserved
steps-preserved g c =
    let stepper = c.args.stepper in
    let mid = c.steps.self in
    let new = c.step_once.new.self in
    let one : Follows (λ machine replay. step_on machine (event_by stepper c.in-Ok.number) replay) true mid new =
    subst (λ b. Follows (λ machine replay. step_on machine (event_by stepper c.in-Ok.number) replay) b mid new) c.if-not-branch.false c.in_ok-step_once.ensures in
    let is = c.requires.replaying in
    let s = c.steps.invariant.stepping is.machine is.replay is.keeps in
    record {
      same = same-twice c.args.self.now mid new c.steps.invariant.same one.same;
      low = subst (λ n. n ≤ 2 ^ 63) (sym (step-time (event_by stepper c.in-Ok.number) mid new (record { machine = is.machine; replay = s.now; keeps = s.keeps }) one)) c.steps.invariant.low;
      stepping = λ machine replay k.
          stepping-goes machine (event_by stepper c.in-Ok.number) c.args.count c.steps.left (c.steps.left - 1) replay mid new (omega (arith, c.steps-test.true)) one
          (c.steps.invariant.stepping machine replay k);
    }

pub returns : goal.returns
returns g c =
    let stepper = c.args.stepper in
    line-goes stepper c.args.process c.args.count c.steps.left c.args.self.now c.steps.self (omega (arith, c.if-count-eq0.false)) (omega (arith, c.steps-test.false)) c.steps.invariant.same
    (λ machine replay k.
    subst (λ n. Stepping machine (event_by stepper n) c.args.count c.steps.left replay c.steps.self) c.in-Ok.ensures.1 (c.steps.invariant.stepping machine replay k))
