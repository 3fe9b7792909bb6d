-- The strobes up to the last time saw the values.
use Rattle.std.proofs.Common.{◌<◌, ◌+◌, length, map, get_or, ap, sym, subst, ◌∙◌, arith}
use Rattle.vf_base.specs.Base.{watched_bit}
use Rattle.v_design.specs.Grades.{samples}
use Rattle.cert_runs.proofs.Keeping.{keeping-none, keeping-more, keeping-stops, keeping-over, one-more}
use Rattle.cert_runs.proofs.samples.keep_until.Goals as goal

pub strobes-init : goal.strobes-init
strobes-init g c = record {
  at_is = omega arith;
  keeping = keeping-none (c.args.last + 1) (samples (map watched_bit c.args.watched.now) (g.V.Values.values c.args.values.now)) c.args.strobes.now c.args.kept.now.items;
}

pub returns-then-last-strobe : goal.returns-then-last-strobe
returns-then-last-strobe g c =
    let low = c.if-last-strobe.true in
    keeping-stops (c.args.last + 1) (samples (map watched_bit c.args.watched.now) (g.V.Values.values c.args.values.now)) c.args.strobes.now c.args.kept.now.items c.strobes.kept.items
    (subst (λ n. n < length c.args.strobes.now) c.strobes.invariant.at_is c.strobes-test.true)
    (omega (arith, low, ap (λ n. get_or c.args.strobes.now n 0) c.strobes.invariant.at_is)) c.strobes.invariant.keeping

pub strobes-preserved : goal.strobes-preserved
strobes-preserved g c =
    let bits = samples (map watched_bit c.args.watched.now) (g.V.Values.values c.args.values.now) in
    let more = c.in_ok-keep_sample.ensures in
    let strobe = get_or c.args.strobes.now c.strobes.at 0 in
    record {
      at_is = ap (λ n. n + 1) c.strobes.invariant.at_is ∙ sym (one-more bits strobe c.strobes.kept.items c.keep_sample.new.kept.items more);
      keeping = keeping-more (c.args.last + 1) bits c.args.strobes.now c.args.kept.now.items c.strobes.kept.items c.keep_sample.new.kept.items strobe
          (subst (λ n. n < length c.args.strobes.now) c.strobes.invariant.at_is c.strobes-test.true) (ap (λ n. get_or c.args.strobes.now n 0) c.strobes.invariant.at_is)
          (omega (arith, c.if-last-strobe.false)) more c.strobes.invariant.keeping;
    }

pub returns : goal.returns
returns g c =
    keeping-over (c.args.last + 1) (samples (map watched_bit c.args.watched.now) (g.V.Values.values c.args.values.now)) c.args.strobes.now c.args.kept.now.items c.strobes.kept.items
    (omega (arith, c.strobes-test.false, c.strobes.invariant.at_is)) c.strobes.invariant.keeping
