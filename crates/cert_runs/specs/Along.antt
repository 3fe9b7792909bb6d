-- How far the lines of a run in a certificate go (the format is this program's own; runs by IEEE 1364-2001, clause 5).
use Rattle.std.specs.Prelude.{ℕ, ◌+◌, Bool, List, [], ◌∷◌, Option, Some, None}
use Rattle.v_design.specs.Designs.{Machine}
use Rattle.cert_laws.specs.Replays.{RunLine, Replay}
use Rattle.cert_laws.specs.Valid.{CertLine, GoodBegins, FaultyBegins, Runs, Closes, Formless, line_in}

-- so many lines are followed, and then a line of the run isn't, or there is none of a run
pub data Along : Type 0 where
  BreaksOff : (count : ℕ) → Along
  ComesTo : (count : ℕ) (run : Option Replay) → Along

-- after some lines that are followed
abbrev pub behind : ℕ → Along → Along
behind before (BreaksOff count) = BreaksOff (before + count)
behind before (ComesTo count run) = ComesTo (before + count) run

-- the line of a run that a line says
abbrev pub run_in : CertLine → Option RunLine
run_in GoodBegins = None
run_in FaultyBegins = None
run_in (Runs line) = Some line
run_in Closes = None
run_in Formless = None

-- the lines of a run in front of some lines are followed, up to the first that isn't; without a bound there are none
abbrev pub along : Bool → Machine → Option ℕ → List CertLine → Option Replay → Along
along race machine bound [] run = ComesTo 0 run
along race machine bound (said ∷ lines) run =
    elim (run_in said) [
      | None ↦ ComesTo 0 run
      | Some line ↦ elim (line_in race machine bound line run) [ None ↦ BreaksOff 0 | Some next ↦ behind 1 (along race machine bound lines (Some next)) ]
    ]
