-- What the section of a run in a certificate says (the format is this program's own; runs by IEEE 1364-2001, clause 5).
use Rattle.std.specs.Prelude.{◌≡◌, Bool, false, List, [], ◌∷◌, Option, is_some}
use Rattle.v_design.specs.Designs.{Machine}
use Rattle.cert_laws.specs.Replays.{Replay}
use Rattle.cert_laws.specs.Valid.{CertLine, is_left}
use Rattle.cert_runs.specs.declared.asked.Asked.{Asked}
use Rattle.cert_runs.specs.declared.section.Section.{Section}
use Rattle.cert_runs.specs.declared.section.Section.TheVariants.{Breaks, Stops}
use Rattle.cert_runs.specs.Along.{BreaksOff, ComesTo, run_in, along}
use Rattle.cert_runs.specs.Asking.{race_asked, bound_asked, Shows}

-- whether the first line is one of a run
abbrev pub begins_run : List CertLine → Bool
begins_run [] = false
begins_run (said ∷ lines) = is_some (run_in said)

-- how far the lines of a run go, and where they don't break off what the run shows where it may be left there, and nothing where it may not
abbrev pub SectionBy : Asked → Machine → List CertLine → Option Replay → Section → Type 0
SectionBy asked machine lines before (Breaks count) = along (race_asked asked) machine (bound_asked asked) lines before ≡ BreaksOff count
SectionBy asked machine lines before (Stops count shown) =
    (run : Option Replay) × (along (race_asked asked) machine (bound_asked asked) lines before ≡ ComesTo count run)
    × (is_some shown ≡ is_left (race_asked asked) machine (bound_asked asked) run) × Shows asked machine run shown
