-- No strobe is before time 0; those before another time are up to the time before it.
use Rattle.std.proofs.Common.{◌≡◌, ◌+◌, map, sym, subst, arith}
use Rattle.vf_base.specs.Base.{watched_bit}
use Rattle.v_design.specs.Grades.{samples}
use Rattle.cert_runs.specs.Samples.{KeepsBefore}
use Rattle.cert_runs.proofs.Keeping.{keeps-nothing}
use Rattle.cert_runs.proofs.samples.keep_before.Goals as goal

pub returns-in-None : goal.returns-in-None
returns-in-None g c =
    let zero-is : c.args.time ≡ 0 = omega (arith, c.in-None.ensures) in
    subst (λ t. KeepsBefore t (samples (map watched_bit c.args.watched.now) (g.V.Values.values c.args.values.now)) c.args.strobes.now c.args.kept.now.items c.args.kept.now.items) (sym zero-is)
    (keeps-nothing (samples (map watched_bit c.args.watched.now) (g.V.Values.values c.args.values.now)) c.args.strobes.now c.args.kept.now.items)

pub returns-in_ok-keep_until-in-Some : goal.returns-in_ok-keep_until-in-Some
returns-in_ok-keep_until-in-Some g c =
    let after : c.in-Some.last + 1 ≡ c.args.time = omega (arith, c.in-Some.ensures) in
    subst (λ t. KeepsBefore t (samples (map watched_bit c.args.watched.now) (g.V.Values.values c.args.values.now)) c.args.strobes.now c.args.kept.now.items c.keep_until.new.kept.items) after
    c.in_ok-keep_until-in-Some.ensures
