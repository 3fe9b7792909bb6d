-- Which line fails first, from one stage to the next.
use Rattle.std.proofs.Common.{◌≡◌, ℕ, zero, suc, ◌+◌, ◌<◌, ◌≤◌, List, [], ◌∷◌, length, drop, Bool, true, false, ◌&&◌, Bor, refl, sym, ap, subst, ◌∙◌, arith}
use Rattle.std.specs.Prelude.{Option, Some, None, is_some, IfSome}
use Rattle.vf_base.specs.declared.finding.Side.{Side}
use Rattle.vf_base.specs.declared.finding.Side.TheVariants.{Good, Faulty}
use Rattle.vf_base.specs.declared.finding.End.{End}
use Rattle.v_design.specs.Designs.{FlatDesign, StuckAt, TestPlan}
use Rattle.v_design.specs.Plain.{fault_of}
use Rattle.v_design.specs.Runs.{only_if}
use Rattle.v_design.specs.declared.plan.Fault.{Fault}
use Rattle.text_lines.specs.Plain.{plain_texts}
use Rattle.cert_laws.specs.Claims.{Claim}
use Rattle.cert_laws.specs.Replays.{Replay}
use Rattle.cert_laws.specs.Valid.{stands, CertLine, GoodBegins, FaultyBegins, Runs, Closes, Formless, Stage, Before, InGood, InFaulty, Over, failing_from, lines_said}
use Rattle.cert_runs.specs.Failing.{good_fails, faulty_fails, GoodRunsTell, FaultyRunsTell}
use Rattle.cert_runs.specs.declared.asked.Shown.{Shown}
use Rattle.cert_runs.specs.declared.section.Section.{Section}
use Rattle.cert_runs.specs.declared.section.Section.TheVariants.{Breaks, Stops}
use Rattle.vf_audit.specs.Ends.{EndBy}
use Rattle.vf_audit.specs.Sides.{ShowsFor, BeginsNoRun, LeavesRun, SectionFor}
use Rattle.vf_audit.specs.Stages.{BeginsOtherwise, FollowsFrom}
use Rattle.vf_audit.specs.declared.answers.Audited.{Audited}
use Rattle.vf_audit.specs.declared.answers.Audited.TheVariants.{Yes, No}

-- Texts

pub length-said : (xs : List (Bor (List ℕ))) → length (lines_said (plain_texts xs)) ≡ length xs
length-said [] = refl
length-said (x ∷ xs) = ap suc (length-said xs)

pub drop-said : (count : ℕ) (xs : List (Bor (List ℕ))) → lines_said (plain_texts (drop count xs)) ≡ drop count (lines_said (plain_texts xs))
drop-said zero xs = refl
drop-said (suc count) [] = refl
drop-said (suc count) (x ∷ xs) = drop-said count xs

-- Stages

module _ (design : FlatDesign) (plan : TestPlan) (fault : StuckAt) (claim : Claim) where
  abbrev from : ℕ → Stage → List CertLine → Option ℕ
  from number stage lines = failing_from design plan fault claim number stage lines

  abbrev follows : ℕ → Stage → List CertLine → Audited → Type 0
  follows number stage lines audited = FollowsFrom design plan fault claim number stage lines audited

  -- what fails behind fails here
  pub follows-as : (number next : ℕ) (stage later : Stage) (lines rest : List CertLine) (audited : Audited) →
      failing_from design plan fault claim number stage lines ≡ failing_from design plan fault claim next later rest →
      FollowsFrom design plan fault claim next later rest audited → FollowsFrom design plan fault claim number stage lines audited
  follows-as number next stage later lines rest (Yes found end) e f = record { fault_is = f.fault_is; valid = e ∙ f.valid; claims = f.claims; race = f.race }
  follows-as number next stage later lines rest (No failing) e f = e ∙ f

  -- Before the good run

  pub before-other : (number : ℕ) (lines : List CertLine) → BeginsOtherwise GoodBegins lines → failing_from design plan fault claim number Before lines ≡ Some number
  before-other number [] other = refl
  before-other number (GoodBegins ∷ lines) other = absurd (other refl)
  before-other number (FaultyBegins ∷ lines) other = refl
  before-other number (Runs line ∷ lines) other = refl
  before-other number (Closes ∷ lines) other = refl
  before-other number (Formless ∷ lines) other = refl

  pub before-good : (number : ℕ) (lines rest : List CertLine) → lines ≡ GoodBegins ∷ rest →
      failing_from design plan fault claim number Before lines ≡ failing_from design plan fault claim (number + 1) (InGood None) rest
  before-good number lines rest is = ap (from number Before) is

  -- In the good run

  pub good-other : (number : ℕ) (run : Option Replay) (lines : List CertLine) → BeginsNoRun lines → BeginsOtherwise FaultyBegins lines →
      failing_from design plan fault claim number (InGood run) lines ≡ Some number
  good-other number run [] none other = refl
  good-other number run (GoodBegins ∷ lines) none other = refl
  good-other number run (FaultyBegins ∷ lines) none other = absurd (other refl)
  good-other number run (Runs line ∷ lines) none other = cc
  good-other number run (Closes ∷ lines) none other = refl
  good-other number run (Formless ∷ lines) none other = refl

  abbrev good_next : ℕ → Option Replay → List CertLine → Bool → Option ℕ
  good_next number run rest left = elim (only_if left (InFaulty run None)) [ None ↦ Some number | Some next ↦ failing_from design plan fault claim (number + 1) next rest ]

  pub good-stays : (number : ℕ) (run : Option Replay) (lines rest : List CertLine) (found : Option Shown) → lines ≡ FaultyBegins ∷ rest → LeavesRun design plan fault claim Good run found →
      found ≡ None → failing_from design plan fault claim number (InGood run) lines ≡ Some number
  good-stays number run lines rest found is leaves none = ap (from number (InGood run)) is ∙ ap (good_next number run rest) (sym leaves.left ∙ ap is_some none)

  pub good-leaves : (number : ℕ) (run : Option Replay) (lines rest : List CertLine) (found : Option Shown) (shown : Shown) → lines ≡ FaultyBegins ∷ rest →
      LeavesRun design plan fault claim Good run found → found ≡ Some shown →
      failing_from design plan fault claim number (InGood run) lines ≡ failing_from design plan fault claim (number + 1) (InFaulty run None) rest
  good-leaves number run lines rest found shown is leaves some = ap (from number (InGood run)) is ∙ ap (good_next number run rest) (sym leaves.left ∙ ap is_some some)

  -- In the faulty run

  pub faulty-other : (number : ℕ) (good run : Option Replay) (lines : List CertLine) → BeginsNoRun lines → BeginsOtherwise Closes lines →
      failing_from design plan fault claim number (InFaulty good run) lines ≡ Some number
  faulty-other number good run [] none other = refl
  faulty-other number good run (GoodBegins ∷ lines) none other = refl
  faulty-other number good run (FaultyBegins ∷ lines) none other = refl
  faulty-other number good run (Runs line ∷ lines) none other = cc
  faulty-other number good run (Closes ∷ lines) none other = absurd (other refl)
  faulty-other number good run (Formless ∷ lines) none other = refl

  abbrev faulty_next : ℕ → List CertLine → Bool → Option ℕ
  faulty_next number rest ends = elim (only_if ends Over) [ None ↦ Some number | Some next ↦ failing_from design plan fault claim (number + 1) next rest ]

  pub faulty-stays : (number : ℕ) (good run : Option Replay) (lines rest : List CertLine) (found : Option Shown) → lines ≡ Closes ∷ rest → LeavesRun design plan fault claim Faulty run found →
      found ≡ None → failing_from design plan fault claim number (InFaulty good run) lines ≡ Some number
  faulty-stays number good run lines rest found is leaves none =
      ap (from number (InFaulty good run)) is ∙ ap (λ b. faulty_next number rest (b && stands design plan fault claim good run)) (sym leaves.left ∙ ap is_some none)

  faulty-closes : (number : ℕ) (good run : Option Replay) (lines rest : List CertLine) (found : Option Shown) (shown : Shown) (ends : Bool) → lines ≡ Closes ∷ rest →
      LeavesRun design plan fault claim Faulty run found → found ≡ Some shown → stands design plan fault claim good run ≡ ends →
      failing_from design plan fault claim number (InFaulty good run) lines ≡ faulty_next number rest ends
  faulty-closes number good run lines rest found shown ends is leaves some e =
      ap (from number (InFaulty good run)) is ∙ ap (λ b. faulty_next number rest (b && stands design plan fault claim good run)) (sym leaves.left ∙ ap is_some some) ∙ ap (faulty_next number rest) e

  -- what is shown of a run that may be left
  pub shown-by : (run : Option Replay) (found : Option Shown) (shown : Shown) → LeavesRun design plan fault claim Faulty run found → found ≡ Some shown →
      ShowsFor design plan fault claim Faulty run shown
  shown-by run found shown leaves some = subst (λ x. IfSome x (ShowsFor design plan fault claim Faulty run)) some leaves.showing

  -- the same of the good run
  pub good-shown : (run : Option Replay) (found : Option Shown) (shown : Shown) → LeavesRun design plan fault claim Good run found → found ≡ Some shown →
      ShowsFor design plan fault claim Good run shown
  good-shown run found shown leaves some = subst (λ x. IfSome x (ShowsFor design plan fault claim Good run)) some leaves.showing

  pub faulty-falls : (number : ℕ) (good run : Option Replay) (lines rest : List CertLine) (found : Option Shown) (shown : Shown) (end : Option End) → lines ≡ Closes ∷ rest →
      LeavesRun design plan fault claim Faulty run found → found ≡ Some shown → EndBy design plan fault claim good run end → end ≡ None →
      failing_from design plan fault claim number (InFaulty good run) lines ≡ Some number
  faulty-falls number good run lines rest found shown end is leaves some by none =
      faulty-closes number good run lines rest found shown false is leaves some (subst (EndBy design plan fault claim good run) none by)

  pub faulty-stands : (number : ℕ) (good run : Option Replay) (lines rest : List CertLine) (found : Option Shown) (shown : Shown) (end : Option End) (one : End) → lines ≡ Closes ∷ rest →
      LeavesRun design plan fault claim Faulty run found → found ≡ Some shown → EndBy design plan fault claim good run end → end ≡ Some one →
      failing_from design plan fault claim number (InFaulty good run) lines ≡ failing_from design plan fault claim (number + 1) Over rest
  faulty-stands number good run lines rest found shown end one is leaves some by e =
      faulty-closes number good run lines rest found shown true is leaves some (subst (EndBy design plan fault claim good run) e by).0

  -- Behind the end

  pub over-more : (number : ℕ) (lines : List CertLine) → ¬ (length lines ≡ 0) → failing_from design plan fault claim number Over lines ≡ Some number
  over-more number [] some = absurd (some refl)
  over-more number (GoodBegins ∷ lines) some = refl
  over-more number (FaultyBegins ∷ lines) some = refl
  over-more number (Runs line ∷ lines) some = refl
  over-more number (Closes ∷ lines) some = refl
  over-more number (Formless ∷ lines) some = refl

  pub over-none : (number : ℕ) (lines : List CertLine) → length lines ≡ 0 → failing_from design plan fault claim number Over lines ≡ None
  over-none number [] none = refl
  over-none number (line ∷ lines) none = absurd (omega arith)

  pub ends-so : (number : ℕ) (good run : Option Replay) (lines rest : List CertLine) (found : Option Shown) (shown : Shown) (end : Option End) (one : End) (named : Fault) → lines ≡ Closes ∷ rest →
      LeavesRun design plan fault claim Faulty run found → found ≡ Some shown → EndBy design plan fault claim good run end → end ≡ Some one → length rest ≡ 0 → fault_of named ≡ fault →
      FollowsFrom design plan fault claim number (InFaulty good run) lines (Yes named one)
  ends-so number good run lines rest found shown end one named is leaves some by e none same =
      let so = subst (EndBy design plan fault claim good run) e by in
      record {
        fault_is = same;
        valid = faulty-stands number good run lines rest found shown end one is leaves some by e ∙ over-none (number + 1) rest none;
        claims = so.1;
        race = so.2;
      }

  -- Runs

  -- where a run breaks off
  pub breaks-low : (side : Side) (xs : List (Bor (List ℕ))) (section : Section) (count : ℕ) → SectionFor design plan fault claim side (lines_said (plain_texts xs)) section → section ≡ Breaks count →
      count < length xs
  breaks-low side xs section count given is =
      let s = subst (SectionFor design plan fault claim side (lines_said (plain_texts xs))) is given in subst (λ n. count < n) (length-said xs) s.1

  -- where it stops
  pub stops-low : (side : Side) (xs : List (Bor (List ℕ))) (section : Section) (count : ℕ) (found : Option Shown) → SectionFor design plan fault claim side (lines_said (plain_texts xs)) section →
      section ≡ Stops count found → count ≤ length xs
  stops-low side xs section count found given is =
      let s = subst (SectionFor design plan fault claim side (lines_said (plain_texts xs))) is given in subst (λ n. count ≤ n) (length-said xs) s.within

  pub good-breaks : GoodRunsTell → (number count at : ℕ) (lines : List CertLine) (section : Section) → SectionFor design plan fault claim Good lines section → section ≡ Breaks count →
      at ≡ number + count → failing_from design plan fault claim number (InGood None) lines ≡ Some at
  good-breaks tell number count at lines section given is at_is =
      let s = subst (SectionFor design plan fault claim Good lines) is given in
      tell design plan fault claim number None lines ∙ ap (good_fails design plan fault claim number lines) s.0 ∙ ap Some (sym at_is)

  pub good-stops : GoodRunsTell → (number count at : ℕ) (lines rest : List CertLine) (section : Section) (found : Option Shown) (audited : Audited) →
      SectionFor design plan fault claim Good lines section → section ≡ Stops count found → rest ≡ drop count lines → at ≡ number + count →
      ((run : Option Replay) → BeginsNoRun rest → LeavesRun design plan fault claim Good run found → FollowsFrom design plan fault claim at (InGood run) rest audited) →
      FollowsFrom design plan fault claim number (InGood None) lines audited
  good-stops tell number count at lines rest section found audited given is behind at_is go =
      let s = subst (SectionFor design plan fault claim Good lines) is given in
      follows-as number at (InGood None) (InGood s.run) lines rest audited
      (tell design plan fault claim number None lines ∙ ap (good_fails design plan fault claim number lines) s.comes ∙ (λ i. from (sym at_is i) (InGood s.run) (sym behind i)))
      (go s.run (subst BeginsNoRun (sym behind) s.behind) s.leaves)

  pub faulty-breaks : FaultyRunsTell → (good : Option Replay) (number count at : ℕ) (lines : List CertLine) (section : Section) → SectionFor design plan fault claim Faulty lines section →
      section ≡ Breaks count → at ≡ number + count → failing_from design plan fault claim number (InFaulty good None) lines ≡ Some at
  faulty-breaks tell good number count at lines section given is at_is =
      let s = subst (SectionFor design plan fault claim Faulty lines) is given in
      tell design plan fault claim number good None lines ∙ ap (faulty_fails design plan fault claim good number lines) s.0 ∙ ap Some (sym at_is)

  pub faulty-stops : FaultyRunsTell → (good : Option Replay) (number count at : ℕ) (lines rest : List CertLine) (section : Section) (found : Option Shown) (audited : Audited) →
      SectionFor design plan fault claim Faulty lines section → section ≡ Stops count found → rest ≡ drop count lines → at ≡ number + count →
      ((run : Option Replay) → BeginsNoRun rest → LeavesRun design plan fault claim Faulty run found → FollowsFrom design plan fault claim at (InFaulty good run) rest audited) →
      FollowsFrom design plan fault claim number (InFaulty good None) lines audited
  faulty-stops tell good number count at lines rest section found audited given is behind at_is go =
      let s = subst (SectionFor design plan fault claim Faulty lines) is given in
      follows-as number at (InFaulty good None) (InFaulty good s.run) lines rest audited
      (tell design plan fault claim number good None lines ∙ ap (faulty_fails design plan fault claim good number lines) s.comes ∙ (λ i. from (sym at_is i) (InFaulty good s.run) (sym behind i)))
      (go s.run (subst BeginsNoRun (sym behind) s.behind) s.leaves)
