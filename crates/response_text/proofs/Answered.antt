-- What is answered to a text, by what its lines say.
use Rattle.std.proofs.Common.{◌≡◌, ℕ, ◌≤◌, List, length, Result, Ok, Err, IfOk, IfErr, sym, ◌∙◌, ap, subst}
use Rattle.std.specs.declared.vec.Vec.{Vec}
use Rattle.std.specs.declared.alloc.Global.{Global}
use Rattle.v_design.specs.Designs.{TestPlan}
use Rattle.v_design.specs.Grades.{Sample}
use Rattle.kept_samples.specs.Kept.{samples_kept}
use Rattle.kept_samples.specs.declared.kept.Sample.{Sample as SampleKept}
use Rattle.dict_laws.specs.Responses.{IsResponse}
use Rattle.text_lines.specs.Text.{lines_of}
use Rattle.response_text.specs.declared.fault.ResponseFault.{ResponseFault}
use Rattle.response_text.specs.declared.fault.ResponseFault.TheVariants.{BadLine, TooLong, NoMemory}
use Rattle.response_text.specs.Reading.{samples_on, response_of, most_bytes}
use Rattle.response_text.specs.Spelled.{Spells, Refuses, FaultOf}
use Rattle.response_text.proofs.Fitting.{spelled-fits}

meant-there : (plan : TestPlan) (text : List ℕ) (width : ℕ) (strobes : List ℕ) (said : List (List ℕ)) → width ≡ length plan.watched → strobes ≡ plan.strobes →
    said ≡ lines_of text → samples_on width 1 strobes said ≡ response_of plan text
meant-there plan text width strobes said wide times same =
    ap (λ w. samples_on w 1 strobes said) wide
    ∙ (ap (λ s. samples_on (length plan.watched) 1 s said) times ∙ ap (samples_on (length plan.watched) 1 plan.strobes) same)

-- the samples that are answered
pub spelled-if : (plan : TestPlan) (text : List ℕ) (width : ℕ) (strobes : List ℕ) (said : List (List ℕ)) (result : Result (Vec SampleKept Global) ResponseFault) →
    width ≡ length plan.watched → strobes ≡ plan.strobes → said ≡ lines_of text → length text ≤ most_bytes →
    IfOk result (λ samples. samples_on width 1 strobes said ≡ Ok (samples_kept samples.items)) →
    IfOk result (λ samples. Spells plan text (samples_kept samples.items))
spelled-if plan text width strobes said (Ok samples) wide times same short h = record { short = short; samples_are = sym (meant-there plan text width strobes said wide times same) ∙ h }
spelled-if plan text width strobes said (Err fault) wide times same short h = tt

-- they fit the plan
pub fits-if : (plan : TestPlan) (text : List ℕ) (result : Result (Vec SampleKept Global) ResponseFault) →
    IfOk result (λ samples. Spells plan text (samples_kept samples.items)) → IfOk result (λ samples. IsResponse plan (samples_kept samples.items))
fits-if plan text (Ok samples) h = spelled-fits plan text (samples_kept samples.items) h
fits-if plan text (Err fault) h = tt

refused-there : (plan : TestPlan) (text : List ℕ) (fault : ResponseFault) → length text ≤ most_bytes → FaultOf (response_of plan text) fault → Refuses plan text fault
refused-there plan text (BadLine number) short h = (short, h)
refused-there plan text TooLong short h = absurd h
refused-there plan text NoMemory short h = tt

-- the fault that is answered
pub refused-if : (plan : TestPlan) (text : List ℕ) (width : ℕ) (strobes : List ℕ) (said : List (List ℕ)) (result : Result (Vec SampleKept Global) ResponseFault) →
    width ≡ length plan.watched → strobes ≡ plan.strobes → said ≡ lines_of text → length text ≤ most_bytes → IfErr result (FaultOf (samples_on width 1 strobes said)) →
    IfErr result (Refuses plan text)
refused-if plan text width strobes said (Ok samples) wide times same short h = tt
refused-if plan text width strobes said (Err fault) wide times same short h =
    let P : Result (List Sample) ℕ → Type 0 = λ meant. FaultOf meant fault in
    refused-there plan text fault short (subst P (meant-there plan text width strobes said wide times same) h)
