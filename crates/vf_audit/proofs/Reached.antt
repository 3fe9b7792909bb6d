-- How far the lines of a run go: to one of them, or to where no line of a run stands.
use Rattle.std.proofs.Common.{◌≡◌, ℕ, suc, ◌+◌, ◌<◌, ◌≤◌, List, [], ◌∷◌, length, drop, Bool, refl, subst, arith}
use Rattle.std.specs.Prelude.{Option, Some, None}
use Rattle.v_design.specs.Designs.{Machine}
use Rattle.cert_laws.specs.Replays.{RunLine, Replay}
use Rattle.cert_laws.specs.Valid.{CertLine, line_in}
use Rattle.cert_runs.specs.Along.{Along, BreaksOff, ComesTo, behind, run_in, along}
use Rattle.vf_audit.specs.Sides.{BeginsNoRun}

-- behind a line that is followed
behind-breaks : (a : Along) (count most : ℕ) → behind 1 a ≡ BreaksOff count → ((n : ℕ) → a ≡ BreaksOff n → n < most) → count < suc most
behind-breaks (BreaksOff n) count most e h = let low : n < most = h n refl in let z : 1 + n ≡ count = cc in omega (arith, low, z)
behind-breaks (ComesTo n run) count most e h = cc

record Behind (a : Along) (count : ℕ) (now : Option Replay) : Type 0 where
  before : ℕ
  comes : a ≡ ComesTo before now
  next_is : suc before ≡ count

behind-comes : (a : Along) (count : ℕ) (now : Option Replay) → behind 1 a ≡ ComesTo count now → Behind a count now
behind-comes (BreaksOff n) count now e = cc
behind-comes (ComesTo n run) count now e =
    let z : 1 + n ≡ count = cc in
    let same : run ≡ now = cc in
    record { before = n; comes = (λ i. ComesTo n (same i)); next_is = omega (arith, z) }

module _ (race : Bool) (machine : Machine) (bound : Option ℕ) where
  abbrev on_next : List CertLine → Option Replay → Along
  on_next lines found = elim found [ None ↦ BreaksOff 0 | Some next ↦ behind 1 (along race machine bound lines (Some next)) ]

  abbrev on_line : List CertLine → Option Replay → Option RunLine → Along
  on_line lines run found = elim found [ None ↦ ComesTo 0 run | Some line ↦ on_next lines (line_in race machine bound line run) ]

  -- A line breaks off

  breaks-next : (lines : List CertLine) (count : ℕ) (found : Option Replay) → on_next lines found ≡ BreaksOff count →
      ((next : Replay) (n : ℕ) → along race machine bound lines (Some next) ≡ BreaksOff n → n < length lines) → count < suc (length lines)
  breaks-next lines count None e rest = let z : 0 ≡ count = cc in omega (arith, z)
  breaks-next lines count (Some next) e rest = behind-breaks (along race machine bound lines (Some next)) count (length lines) e (λ n f. rest next n f)

  breaks-line : (lines : List CertLine) (run : Option Replay) (count : ℕ) (found : Option RunLine) → on_line lines run found ≡ BreaksOff count →
      ((next : Replay) (n : ℕ) → along race machine bound lines (Some next) ≡ BreaksOff n → n < length lines) → count < suc (length lines)
  breaks-line lines run count None e rest = cc
  breaks-line lines run count (Some line) e rest = breaks-next lines count (line_in race machine bound line run) e rest

  -- the line that breaks off is one of them
  pub breaks-within : (lines : List CertLine) (run : Option Replay) (count : ℕ) → along race machine bound lines run ≡ BreaksOff count → count < length lines
  breaks-within [] run count e = cc
  breaks-within (said ∷ lines) run count e = breaks-line lines run count (run_in said) e (λ next n f. breaks-within lines (Some next) n f)

  -- The lines stop

  -- so many lines were followed, and none of a run stands behind them
  pub record Reached (lines : List CertLine) (count : ℕ) : Type 0 where
    pub within : count ≤ length lines
    pub over : BeginsNoRun (drop count lines)

  reached-none : (said : CertLine) (lines : List CertLine) (run : Option Replay) (count : ℕ) (now : Option Replay) → run_in said ≡ None → ComesTo 0 run ≡ ComesTo count now →
      Reached (said ∷ lines) count
  reached-none said lines run count now none e =
      let z : 0 ≡ count = cc in
      record {
        within = omega (arith, z);
        over = subst (λ n. BeginsNoRun (drop n (said ∷ lines))) z none;
      }

  reached-next : (said : CertLine) (lines : List CertLine) (count : ℕ) (now : Option Replay) (found : Option Replay) →
      on_next lines found ≡ ComesTo count now →
      ((next : Replay) (n : ℕ) → along race machine bound lines (Some next) ≡ ComesTo n now → Reached lines n) → Reached (said ∷ lines) count
  reached-next said lines count now None e rest = cc
  reached-next said lines count now (Some next) e rest =
      let b = behind-comes (along race machine bound lines (Some next)) count now e in
      let r = rest next b.before b.comes in
      record {
        within = omega (arith, r.within, b.next_is);
        over = subst (λ n. BeginsNoRun (drop n (said ∷ lines))) b.next_is r.over;
      }

  reached-line : (said : CertLine) (lines : List CertLine) (run : Option Replay) (count : ℕ) (now : Option Replay) (found : Option RunLine) → run_in said ≡ found →
      on_line lines run found ≡ ComesTo count now →
      ((next : Replay) (n : ℕ) → along race machine bound lines (Some next) ≡ ComesTo n now → Reached lines n) → Reached (said ∷ lines) count
  reached-line said lines run count now None f e rest = reached-none said lines run count now f e
  reached-line said lines run count now (Some line) f e rest = reached-next said lines count now (line_in race machine bound line run) e rest

  pub reached : (lines : List CertLine) (run : Option Replay) (count : ℕ) (now : Option Replay) → along race machine bound lines run ≡ ComesTo count now → Reached lines count
  reached [] run count now e =
      let z : 0 ≡ count = cc in
      record { within = omega (arith, z); over = subst (λ n. BeginsNoRun (drop {A = CertLine} n [])) z tt }
  reached (said ∷ lines) run count now e = reached-line said lines run count now (run_in said) refl e (λ next n f. reached lines (Some next) n now f)
