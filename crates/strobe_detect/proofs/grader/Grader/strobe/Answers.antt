-- The times are those after one strobe more.
use Rattle.std.proofs.Common.{◌∙◌, Bool, ap, map}
use Rattle.vf_base.specs.Base.{watched_bit}
use Rattle.v_design.specs.Grades.{samples}
use Rattle.strobe_detect.specs.Firsts.{first_time}
use Rattle.strobe_detect.specs.Graders.{GraderState, shown-next}
use Rattle.strobe_detect.proofs.grader.Grader.strobe.Goals as goal

pub returns-clause-shown : goal.returns-clause-shown
returns-clause-shown g c = λ good faulty strobes shown same_good same_faulty.
    let old = c.args.self.now in
    let seen_good = samples (map watched_bit c.self.inside.watched.now) (g.A.Values.values c.args.good.now) in
    let seen_faulty = samples (map watched_bit c.self.inside.watched.now) (g.B.Values.values c.args.faulty.now) in
    let with : Bool → Bool → GraderState =
    λ hard possible. record { watched = old.watched; hard = first_time old.hard hard c.args.time; possible = first_time old.possible possible c.args.time } in
    let state = c.note.ensures.state ∙ (λ i. with (c.compare-shown.ensures.hard i) (c.compare-shown.ensures.possible i)) in
    shown-next good faulty strobes c.args.time seen_good seen_faulty old c.note.new.self state shown
    (ap (λ (s : GraderState). samples s.watched (g.A.Values.values c.args.good.now)) c.self.view_is ∙ same_good)
    (ap (λ (s : GraderState). samples s.watched (g.B.Values.values c.args.faulty.now)) c.self.view_is ∙ same_faulty)
