use Rattle.std.proofs.Common.{◌≡◌, ◌∙◌, Option, IfOk, option_map, subst}
use Rattle.v_design.specs.Grades.{Sample}
use Rattle.kept_samples.specs.Plain.{sample_of}
use Rattle.response_text.proofs.Heads.{sample-found, sample-missing}
use Rattle.response_text.proofs.sample.sample_on.Goals as goal

pub returns-in-Some : goal.returns-in-Some
returns-in-Some c =
    let P : Option Sample → Type 0 = λ meant. IfOk c.sample_if.result (λ sample. option_map sample_of sample ≡ meant) in
    let written = c.as_bytes.ensures.value ∙ c.in_ok-write_head.ensures in
    let same = c.in-Some.ensures.cases in
    subst P (sample-found c.args.width c.args.time c.as_bytes.result.now c.args.line.now c.in-Some.bytes.now written same.0 same.1) c.sample_if.ensures

pub returns-in-None : goal.returns-in-None
returns-in-None c = sample-missing c.args.width c.args.time c.as_bytes.result.now c.args.line.now (c.as_bytes.ensures.value ∙ c.in_ok-write_head.ensures) c.in-None.ensures.cases
