-- The run of one side of a certificate, and what it shows of the claim (runs and phases by IEEE 1364-2001, clause 5).
use Rattle.std.specs.Prelude.{◌≡◌, ℕ, ◌<◌, ◌≤◌, Bool, List, [], ◌∷◌, length, drop, Option, None, is_some, IfSome}
use Rattle.vf_base.specs.declared.finding.Side.{Side}
use Rattle.vf_base.specs.declared.finding.Side.TheVariants.{Good, Faulty}
use Rattle.v_design.specs.Designs.{FlatDesign, Machine, TestPlan, StuckAt, good_machine, faulty_machine}
use Rattle.v_design.specs.Laws.{machine_of}
use Rattle.cert_laws.specs.Claims.{Claim, Says, Races}
use Rattle.cert_laws.specs.Replays.{Replay}
use Rattle.cert_laws.specs.Valid.{is_race, verdict_bound, bound_of, moves_of, CertLine, is_left}
use Rattle.cert_runs.specs.Along.{BreaksOff, ComesTo, run_in, along}
use Rattle.cert_runs.specs.Asking.{AreSamples, TellsConflict}
use Rattle.cert_runs.specs.declared.asked.Shown.{Shown}
use Rattle.cert_runs.specs.declared.section.Section.{Section}
use Rattle.cert_runs.specs.declared.section.Section.TheVariants.{Breaks, Stops}

-- What a run shows

-- what the run of a side shows of a claim: its samples of a claimed verdict, the accesses of a race that is claimed of it, and nothing of another race
abbrev pub ShowsFor : FlatDesign → TestPlan → StuckAt → Claim → Side → Option Replay → Shown → Type 0
ShowsFor design plan fault (Says given) side run shown = AreSamples (machine_of side design fault) plan.watched plan.strobes (verdict_bound plan given) (moves_of run) shown
ShowsFor design plan fault (Races Good time phase first second) Good run shown = TellsConflict (good_machine design) time phase first second (moves_of run) shown
ShowsFor design plan fault (Races Good time phase first second) Faulty run shown = Unit {0}
ShowsFor design plan fault (Races Faulty time phase first second) Good run shown = Unit {0}
ShowsFor design plan fault (Races Faulty time phase first second) Faulty run shown = TellsConflict (faulty_machine design fault) time phase first second (moves_of run) shown

-- How far its lines go

-- the first line, if there is one, is none of a run
abbrev pub BeginsNoRun : List CertLine → Type 0
BeginsNoRun [] = Unit {0}
BeginsNoRun (said ∷ lines) = run_in said ≡ None

-- a run shows something exactly where it may be left
pub record Leaves (race : Bool) (machine : Machine) (bound : Option ℕ) (Showing : Option Replay → Shown → Type 0) (run : Option Replay) (found : Option Shown) : Type 0 where
  pub left : is_some found ≡ is_left race machine bound run
  pub showing : IfSome found (Showing run)

-- so many lines are followed, and no line of a run stands behind them
pub record StopsAt (race : Bool) (machine : Machine) (bound : Option ℕ) (Showing : Option Replay → Shown → Type 0) (lines : List CertLine) (count : ℕ) (found : Option Shown) : Type 0 where
  pub run : Option Replay
  pub comes : along race machine bound lines None ≡ ComesTo count run
  pub within : count ≤ length lines
  pub behind : BeginsNoRun (drop count lines)
  pub leaves : Leaves race machine bound Showing run found

abbrev pub SectionAs : Bool → Machine → Option ℕ → (Option Replay → Shown → Type 0) → List CertLine → Section → Type 0
SectionAs race machine bound Showing lines (Breaks count) = (along race machine bound lines None ≡ BreaksOff count) × (count < length lines)
SectionAs race machine bound Showing lines (Stops count found) = StopsAt race machine bound Showing lines count found

-- the same of the run of a side, for a claim
abbrev pub LeavesRun : FlatDesign → TestPlan → StuckAt → Claim → Side → Option Replay → Option Shown → Type 0
LeavesRun design plan fault claim side run found = Leaves (is_race claim) (machine_of side design fault) (bound_of plan claim side) (ShowsFor design plan fault claim side) run found

abbrev pub SectionFor : FlatDesign → TestPlan → StuckAt → Claim → Side → List CertLine → Section → Type 0
SectionFor design plan fault claim side lines section =
    SectionAs (is_race claim) (machine_of side design fault) (bound_of plan claim side) (ShowsFor design plan fault claim side) lines section
