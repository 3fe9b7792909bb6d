-- Lines of a certificate, one part after the other.
use Rattle.std.proofs.Common.{◌≡◌, ℕ, true, List, [], ◌∷◌, ◌++◌, map, refl, sym, ap, subst, ◌∙◌, append_assoc, append-nil}
use Rattle.std.specs.Prelude.{Option, Some, None, is_some}
use Rattle.vf_base.specs.Lists.{AllHold}
use Rattle.vf_base.specs.declared.finding.Side.TheVariants.{Good, Faulty}
use Rattle.v_design.specs.Designs.{FlatDesign, TestPlan, StuckAt, good_machine, faulty_machine}
use Rattle.cert_laws.specs.Claims.{Claim}
use Rattle.cert_laws.specs.Replays.{RunLine}
use Rattle.cert_laws.specs.Valid.{CertLine, GoodBegins, FaultyBegins, Runs, Closes, bound_of}
use Rattle.cert_laws.specs.Written.{cert_line_text, run_line_text, lines_to, lines_by}
use Rattle.cert_text.specs.Fits.{RunFits, LineFits}
use Rattle.run_lines.specs.Open.{lines_text}
use Rattle.vf_certify.specs.Runs.{AddsLines}
use Rattle.vf_certify.specs.Lines.{certs_text, Adds}

-- Lines of a run

runs-text : (lines : List RunLine) → certs_text (map Runs lines) ≡ lines_text lines
runs-text [] = refl
runs-text (line ∷ lines) = ap (λ l. run_line_text line ++ l) (runs-text lines)

runs-fit : (lines : List RunLine) → AllHold RunFits lines → AllHold LineFits (map Runs lines)
runs-fit [] h = tt
runs-fit (line ∷ lines) h = (h.0, runs-fit lines h.1)

pub adds-runs : (lines : List RunLine) (old new : List ℕ) → AddsLines lines old new → Adds (map Runs lines) old new
adds-runs lines old new a = (a.0 ∙ ap (λ l. old ++ l) (sym (runs-text lines)), runs-fit lines a.1)

-- Lines, one part after the other

certs-append : (xs ys : List CertLine) → certs_text (xs ++ ys) ≡ certs_text xs ++ certs_text ys
certs-append [] ys = refl
certs-append (x ∷ xs) ys = ap (λ l. cert_line_text x ++ l) (certs-append xs ys) ∙ sym (append_assoc (cert_line_text x) (certs_text xs) (certs_text ys))

certs-fit : (xs ys : List CertLine) → AllHold LineFits xs → AllHold LineFits ys → AllHold LineFits (xs ++ ys)
certs-fit [] ys h k = k
certs-fit (x ∷ xs) ys h k = (h.0, certs-fit xs ys h.1 k)

pub adds-none : (old new : List ℕ) → new ≡ old → Adds [] old new
adds-none old new same = (same ∙ sym (append-nil old), tt)

pub adds-one : (line : CertLine) (old new : List ℕ) → new ≡ old ++ cert_line_text line → LineFits line → Adds (line ∷ []) old new
adds-one line old new is fits = (is ∙ ap (λ l. old ++ l) (sym (append-nil (cert_line_text line))), (fits, tt))

pub adds-more : (xs ys : List CertLine) (old mid new : List ℕ) → Adds xs old mid → Adds ys mid new → Adds (xs ++ ys) old new
adds-more xs ys old mid new a b = (
  b.0 ∙ ap (λ l. l ++ certs_text ys) a.0 ∙ append_assoc old (certs_text xs) (certs_text ys) ∙ ap (λ l. old ++ l) (sym (certs-append xs ys)),
  certs-fit xs ys a.1 b.1,
)

-- both runs between their lines
pub adds-claimed : (design : FlatDesign) (plan : TestPlan) (fault : StuckAt) (claim : Claim) (good faulty : Option ℕ) (old one two three four new : List ℕ) →
    good ≡ bound_of plan claim Good → faulty ≡ bound_of plan claim Faulty → Adds (GoodBegins ∷ []) old one → Adds (lines_to (good_machine design) plan.end good) one two →
    Adds (FaultyBegins ∷ []) two three → Adds (lines_to (faulty_machine design fault) plan.end faulty) three four → Adds (Closes ∷ []) four new →
    Adds (lines_by design plan fault (Some claim)) old new
adds-claimed design plan fault claim good faulty old one two three four new g f a b c d e =
    subst (λ (bound : Option ℕ). Adds (GoodBegins ∷
    (lines_to (good_machine design) plan.end bound ++ (FaultyBegins ∷ (lines_to (faulty_machine design fault) plan.end (bound_of plan claim Faulty) ++ (Closes ∷ []))))) old new) g
    (subst (λ (bound : Option ℕ). Adds (GoodBegins ∷
    (lines_to (good_machine design) plan.end good ++ (FaultyBegins ∷ (lines_to (faulty_machine design fault) plan.end bound ++ (Closes ∷ []))))) old new) f
    (adds-more (GoodBegins ∷ []) (lines_to (good_machine design) plan.end good ++ (FaultyBegins ∷ (lines_to (faulty_machine design fault) plan.end faulty ++ (Closes ∷ [])))) old one new a
    (adds-more (lines_to (good_machine design) plan.end good) (FaultyBegins ∷ (lines_to (faulty_machine design fault) plan.end faulty ++ (Closes ∷ []))) one two new b
    (adds-more (FaultyBegins ∷ []) (lines_to (faulty_machine design fault) plan.end faulty ++ (Closes ∷ [])) two three new c
    (adds-more (lines_to (faulty_machine design fault) plan.end faulty) (Closes ∷ []) three four new d e)))))

-- where something is claimed, the lines are those of the claim
pub claimed-lines : (design : FlatDesign) (plan : TestPlan) (fault : StuckAt) (claim : Option Claim) (old new : List ℕ) → is_some claim ≡ true →
    ((one : Claim) → claim ≡ Some one → Adds (lines_by design plan fault (Some one)) old new) → Adds (lines_by design plan fault claim) old new
claimed-lines design plan fault None old new e h = cc
claimed-lines design plan fault (Some one) old new e h = h one refl
