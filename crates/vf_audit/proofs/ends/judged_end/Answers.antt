-- The samples give the claimed end, or another one.
use Rattle.std.proofs.Common.{◌≡◌, ◌∙◌, refl, rules}
use Rattle.v_design.specs.Grades.{Judged}
use Rattle.v_design.specs.Plain.{grade_of}
use Rattle.vf_audit.specs.Ends.{samples_in}
use Rattle.vf_audit.specs.Strobes.{verdict_in}
use Rattle.vf_audit.proofs.Shown.{judged-yes, judged-no}
use Rattle.vf_audit.proofs.ends.judged_end.Goals as goal

pub returns-then-eq : goal.returns-then-eq
returns-then-eq c = λ given is.
    let shown = verdict_in (samples_in c.args.good.now) (samples_in c.args.faulty.now) in
    let found : grade_of c.verdict_of-found.result ≡ Judged shown = c.verdict_of-found.ensures ∙ (λ i. Judged (verdict_in (c.samples_of.ensures i) (c.samples_of-2.ensures i))) in
    let same : c.verdict_of-found.result ≡ c.args.claimed = search rules in
    (judged-yes c.verdict_of-found.result c.args.claimed shown given found is same, refl)

pub returns-else-eq : goal.returns-else-eq
returns-else-eq c = λ given is.
    let shown = verdict_in (samples_in c.args.good.now) (samples_in c.args.faulty.now) in
    let found : grade_of c.verdict_of-found.result ≡ Judged shown = c.verdict_of-found.ensures ∙ (λ i. Judged (verdict_in (c.samples_of.ensures i) (c.samples_of-2.ensures i))) in
    let other : ¬ (c.verdict_of-found.result ≡ c.args.claimed) = search rules in
    judged-no c.verdict_of-found.result c.args.claimed shown given found is other
