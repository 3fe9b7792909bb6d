-- The strobe's bits are compared.
use Rattle.std.proofs.Common.{map, refl, sym, ap, ◌∙◌}
use Rattle.vf_base.specs.Base.{watched_bit}
use Rattle.v_design.specs.Grades.{samples}
use Rattle.kept_samples.specs.Plain.{sample_of}
use Rattle.fault_strobes.proofs.Samples.{same-kept, other-kept}
use Rattle.fault_strobes.proofs.strobed.keep.Goals as goal

pub returns-then-same : goal.returns-then-same
returns-then-same g c =
    let shown = samples (map watched_bit c.args.watched.now) (g.B.Values.values c.args.faulty.now) in
    same-kept c.args.time c.args.good.now shown (map sample_of c.args.differs.now.items) (sym c.shows_kept-same.ensures ∙ c.if-same.true)

pub returns : goal.returns
returns g c =
    let shown = samples (map watched_bit c.args.watched.now) (g.B.Values.values c.args.faulty.now) in
    ap (map sample_of) c.in_ok-push.ensures.items
    ∙ other-kept c.args.time c.args.good.now shown c.args.differs.now.items (record { time = c.args.time; bits = c.from_vec.result })
    (sym c.shows_kept-same.ensures ∙ c.if-same.false) (c.from_vec.ensures ∙ c.in_ok-bits.ensures) refl
