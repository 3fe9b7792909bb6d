-- Which line fails first is told by how far the lines of a run go.
use Rattle.std.proofs.Common.{◌≡◌, ℕ, suc, ◌+◌, List, [], ◌∷◌, drop, ap, ◌∙◌, arith}
use Rattle.std.specs.Prelude.{Option, Some, None}
use Rattle.vf_base.specs.declared.finding.Side.TheVariants.{Good, Faulty}
use Rattle.v_design.specs.Designs.{FlatDesign, StuckAt, TestPlan, good_machine, faulty_machine}
use Rattle.cert_laws.specs.Claims.{Claim}
use Rattle.cert_laws.specs.Replays.{RunLine, Replay}
use Rattle.cert_laws.specs.Valid.{is_race, bound_of, CertLine, GoodBegins, FaultyBegins, Runs, Closes, Formless, InGood, InFaulty, line_in, good_goes, faulty_goes, failing_from}
use Rattle.cert_runs.specs.Along.{Along, BreaksOff, ComesTo, behind, along}
use Rattle.cert_runs.specs.Failing.{good_fails, faulty_fails, GoodRunsTell, FaultyRunsTell}

-- the number of a line behind another
one-on : (number count : ℕ) → number + 1 + count ≡ number + (1 + count)
one-on number count = omega arith

drop-one : (count : ℕ) (line : CertLine) (lines : List CertLine) → drop count lines ≡ drop (1 + count) (line ∷ lines)
drop-one count line lines = let z : suc count ≡ 1 + count = omega arith in ap (λ n. drop n (line ∷ lines)) z

-- The good run

module _ (design : FlatDesign) (plan : TestPlan) (fault : StuckAt) (claim : Claim) where
  abbrev good_from : ℕ → Option Replay → List CertLine → Option ℕ
  good_from number run lines = failing_from design plan fault claim number (InGood run) lines

  abbrev good_along : List CertLine → Option Replay → Along
  good_along lines run = along (is_race claim) (good_machine design) (bound_of plan claim Good) lines run

  abbrev good_by : ℕ → List CertLine → Along → Option ℕ
  good_by number lines a = good_fails design plan fault claim number lines a

  abbrev good_found : ℕ → List CertLine → Option Replay → Option ℕ
  good_found number lines found = elim (good_goes found) [ None ↦ Some number | Some next ↦ failing_from design plan fault claim (number + 1) next lines ]

  abbrev good_next : List CertLine → Option Replay → Along
  good_next lines found = elim found [ None ↦ BreaksOff 0 | Some next ↦ behind 1 (good_along lines (Some next)) ]

  good-none : (number : ℕ) (run : Option Replay) (lines : List CertLine) → good_from number run lines ≡ good_by number lines (ComesTo 0 run)
  good-none number run lines = let z : number ≡ number + 0 = omega arith in ap (λ n. good_from n run lines) z

  good-on : (number : ℕ) (line : CertLine) (lines : List CertLine) (a : Along) → good_by (number + 1) lines a ≡ good_by number (line ∷ lines) (behind 1 a)
  good-on number line lines (BreaksOff count) = ap Some (one-on number count)
  good-on number line lines (ComesTo count run) = (λ i. good_from (one-on number count i) run (drop-one count line lines i))

  good-step : (number : ℕ) (line : RunLine) (lines : List CertLine) (found : Option Replay) →
      ((next : Replay) → good_from (number + 1) (Some next) lines ≡ good_by (number + 1) lines (good_along lines (Some next))) →
      good_found number lines found ≡ good_by number (Runs line ∷ lines) (good_next lines found)
  good-step number line lines None rest = let z : number ≡ number + 0 = omega arith in ap Some z
  good-step number line lines (Some next) rest = rest next ∙ good-on number (Runs line) lines (good_along lines (Some next))

  good-tells : (number : ℕ) (run : Option Replay) (lines : List CertLine) →
      good_from number run lines ≡ good_by number lines (good_along lines run)
  good-tells number run [] = good-none number run []
  good-tells number run (GoodBegins ∷ lines) = good-none number run (GoodBegins ∷ lines)
  good-tells number run (FaultyBegins ∷ lines) = good-none number run (FaultyBegins ∷ lines)
  good-tells number run (Closes ∷ lines) = good-none number run (Closes ∷ lines)
  good-tells number run (Formless ∷ lines) = good-none number run (Formless ∷ lines)
  good-tells number run (Runs line ∷ lines) =
      good-step number line lines (line_in (is_race claim) (good_machine design) (bound_of plan claim Good) line run) (λ next. good-tells (number + 1) (Some next) lines)

-- The faulty run

module _ (design : FlatDesign) (plan : TestPlan) (fault : StuckAt) (claim : Claim) (good : Option Replay) where
  abbrev faulty_from : ℕ → Option Replay → List CertLine → Option ℕ
  faulty_from number run lines = failing_from design plan fault claim number (InFaulty good run) lines

  abbrev faulty_along : List CertLine → Option Replay → Along
  faulty_along lines run = along (is_race claim) (faulty_machine design fault) (bound_of plan claim Faulty) lines run

  abbrev faulty_by : ℕ → List CertLine → Along → Option ℕ
  faulty_by number lines a = faulty_fails design plan fault claim good number lines a

  abbrev faulty_found : ℕ → List CertLine → Option Replay → Option ℕ
  faulty_found number lines found = elim (faulty_goes good found) [ None ↦ Some number | Some next ↦ failing_from design plan fault claim (number + 1) next lines ]

  abbrev faulty_next : List CertLine → Option Replay → Along
  faulty_next lines found = elim found [ None ↦ BreaksOff 0 | Some next ↦ behind 1 (faulty_along lines (Some next)) ]

  faulty-none : (number : ℕ) (run : Option Replay) (lines : List CertLine) → faulty_from number run lines ≡ faulty_by number lines (ComesTo 0 run)
  faulty-none number run lines = let z : number ≡ number + 0 = omega arith in ap (λ n. faulty_from n run lines) z

  faulty-on : (number : ℕ) (line : CertLine) (lines : List CertLine) (a : Along) → faulty_by (number + 1) lines a ≡ faulty_by number (line ∷ lines) (behind 1 a)
  faulty-on number line lines (BreaksOff count) = ap Some (one-on number count)
  faulty-on number line lines (ComesTo count run) = (λ i. faulty_from (one-on number count i) run (drop-one count line lines i))

  faulty-step : (number : ℕ) (line : RunLine) (lines : List CertLine) (found : Option Replay) →
      ((next : Replay) → faulty_from (number + 1) (Some next) lines ≡ faulty_by (number + 1) lines (faulty_along lines (Some next))) →
      faulty_found number lines found ≡ faulty_by number (Runs line ∷ lines) (faulty_next lines found)
  faulty-step number line lines None rest = let z : number ≡ number + 0 = omega arith in ap Some z
  faulty-step number line lines (Some next) rest = rest next ∙ faulty-on number (Runs line) lines (faulty_along lines (Some next))

  faulty-tells : (number : ℕ) (run : Option Replay) (lines : List CertLine) →
      faulty_from number run lines ≡ faulty_by number lines (faulty_along lines run)
  faulty-tells number run [] = faulty-none number run []
  faulty-tells number run (GoodBegins ∷ lines) = faulty-none number run (GoodBegins ∷ lines)
  faulty-tells number run (FaultyBegins ∷ lines) = faulty-none number run (FaultyBegins ∷ lines)
  faulty-tells number run (Closes ∷ lines) = faulty-none number run (Closes ∷ lines)
  faulty-tells number run (Formless ∷ lines) = faulty-none number run (Formless ∷ lines)
  faulty-tells number run (Runs line ∷ lines) =
      faulty-step number line lines (line_in (is_race claim) (faulty_machine design fault) (bound_of plan claim Faulty) line run) (λ next. faulty-tells (number + 1) (Some next) lines)

-- The laws

pub good-runs-tell : GoodRunsTell
good-runs-tell design plan fault claim number run lines = good-tells design plan fault claim number run lines

pub faulty-runs-tell : FaultyRunsTell
faulty-runs-tell design plan fault claim number good run lines = faulty-tells design plan fault claim good number run lines
