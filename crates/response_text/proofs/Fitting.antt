-- What a text spells has one sample for each strobe, with a bit for each watched bit.
use Rattle.std.proofs.Common.{◌≡◌, ℕ, ◌+◌, List, [], ◌∷◌, ◌++◌, map, length, Option, Some, None, Result, Ok, Err, refl, sym, ◌∙◌, ap}
use Rattle.std.specs.Prelude.{nat_eq}
use Rattle.std.specs.Fmt.{decimal}
use Rattle.std.proofs.lemmas.Bool.{eqb-true}
use Rattle.std.proofs.lemmas.Option.{cond_some}
use Rattle.four_value.specs.declared.logic.Bit.{Bit}
use Rattle.v_design.specs.Designs.{TestPlan}
use Rattle.v_design.specs.Grades.{Sample}
use Rattle.dict_laws.specs.Responses.{IsResponse}
use Rattle.text_lines.specs.Text.{lines_of}
use Rattle.response_text.specs.Reading.{behind, bits_if, sample_if, sample_on, with_sample, samples_on}
use Rattle.response_text.specs.Spelled.{Spells}
use Rattle.response_text.proofs.Heads.{sample_at}

sample_if-fits : (strobe width : ℕ) (bits : Option (List Bit)) (sample : Sample) → sample_if strobe width bits ≡ Some sample → (sample.time ≡ strobe) × (length sample.bits ≡ width)
sample_if-fits strobe width None sample e = cc
sample_if-fits strobe width (Some bits) sample e =
    let some = cond_some (nat_eq (length bits) width) (sample_at strobe bits) sample e in
    (ap (λ (s : Sample). s.time) (sym some.1), ap (λ (s : Sample). length s.bits) (sym some.1) ∙ eqb-true (length bits) width some.0)

with_sample-ok : (first : Option Sample) (number : ℕ) (rest : Result (List Sample) ℕ) (samples : List Sample) → with_sample first number rest ≡ Ok samples →
    (sample : Sample) × (more : List Sample) × (first ≡ Some sample) × (rest ≡ Ok more) × (samples ≡ sample ∷ more)
with_sample-ok None number rest samples e = cc
with_sample-ok (Some sample) number (Ok more) samples e = let same : samples ≡ sample ∷ more = cc in (sample, more, refl, refl, same)
with_sample-ok (Some sample) number (Err later) samples e = cc

samples-fit : (width number : ℕ) (strobes : List ℕ) (lines : List (List ℕ)) (samples : List Sample) → samples_on width number strobes lines ≡ Ok samples →
    (map (λ (sample : Sample). sample.time) samples ≡ strobes) × (map (λ (sample : Sample). length sample.bits) samples ≡ map (λ strobe. width) strobes)
samples-fit width number [] [] samples e =
    let same : samples ≡ [] = cc in (ap (map (λ (sample : Sample). sample.time)) same, ap (map (λ (sample : Sample). length sample.bits)) same)
samples-fit width number [] (line ∷ lines) samples e = cc
samples-fit width number (strobe ∷ strobes) [] samples e = cc
samples-fit width number (strobe ∷ strobes) (line ∷ lines) samples e =
    let p = with_sample-ok (sample_on width strobe line) number (samples_on width (number + 1) strobes lines) samples e in
    let here = sample_if-fits strobe width (bits_if (behind (decimal strobe ++ 32 ∷ []) line)) p.0 p.2 in
    let rest = samples-fit width (number + 1) strobes lines p.1 p.3 in (
      ap (map (λ (sample : Sample). sample.time)) p.4 ∙ (ap (λ t. t ∷ map (λ (sample : Sample). sample.time) p.1) here.0 ∙ ap (λ ts. strobe ∷ ts) rest.0),
      ap (map (λ (sample : Sample). length sample.bits)) p.4 ∙ (ap (λ n. n ∷ map (λ (sample : Sample). length sample.bits) p.1) here.1 ∙ ap (λ ns. width ∷ ns) rest.1),
    )

-- what a text spells fits the plan
pub spelled-fits : (plan : TestPlan) (text : List ℕ) (samples : List Sample) → Spells plan text samples → IsResponse plan samples
spelled-fits plan text samples spells =
    let fit = samples-fit (length plan.watched) 1 plan.strobes (lines_of text) samples spells.samples_are in
    record { times = fit.0; bits = fit.1 }
