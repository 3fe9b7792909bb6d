-- Which line of a certificate fails first, by how far the lines of its runs go (the format is this program's own).
use Rattle.std.specs.Prelude.{◌≡◌, ℕ, ◌+◌, List, drop, Option, Some}
use Rattle.vf_base.specs.declared.finding.Side.TheVariants.{Good, Faulty}
use Rattle.v_design.specs.Designs.{FlatDesign, StuckAt, TestPlan, good_machine, faulty_machine}
use Rattle.cert_laws.specs.Claims.{Claim}
use Rattle.cert_laws.specs.Replays.{Replay}
use Rattle.cert_laws.specs.Valid.{is_race, bound_of, CertLine, InGood, InFaulty, failing_from}
use Rattle.cert_runs.specs.Along.{Along, BreaksOff, ComesTo, along}

module _ (design : FlatDesign) (plan : TestPlan) (fault : StuckAt) (claim : Claim) where
  -- the good run breaks off at a line, which fails; or the lines behind it tell
  abbrev pub good_fails : ℕ → List CertLine → Along → Option ℕ
  good_fails number lines (BreaksOff count) = Some (number + count)
  good_fails number lines (ComesTo count run) = failing_from design plan fault claim (number + count) (InGood run) (drop count lines)

  -- the same of the faulty run, behind a good one
  abbrev pub faulty_fails : Option Replay → ℕ → List CertLine → Along → Option ℕ
  faulty_fails good number lines (BreaksOff count) = Some (number + count)
  faulty_fails good number lines (ComesTo count run) = failing_from design plan fault claim (number + count) (InFaulty good run) (drop count lines)

-- which line fails first is told by how far the lines of the good run go
abbrev pub GoodRunsTell : Type 0
GoodRunsTell =
    (design : FlatDesign) (plan : TestPlan) (fault : StuckAt) (claim : Claim) (number : ℕ) (run : Option Replay) (lines : List CertLine) →
    failing_from design plan fault claim number (InGood run) lines
    ≡ good_fails design plan fault claim number lines (along (is_race claim) (good_machine design) (bound_of plan claim Good) lines run)

-- the same of the faulty run
abbrev pub FaultyRunsTell : Type 0
FaultyRunsTell =
    (design : FlatDesign) (plan : TestPlan) (fault : StuckAt) (claim : Claim) (number : ℕ) (good run : Option Replay) (lines : List CertLine) →
    failing_from design plan fault claim number (InFaulty good run) lines
    ≡ faulty_fails design plan fault claim good number lines (along (is_race claim) (faulty_machine design fault) (bound_of plan claim Faulty) lines run)
