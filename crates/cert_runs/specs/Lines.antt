-- What following lines does to a run (runs by IEEE 1364-2001, clause 5).
use Rattle.std.specs.Prelude.{◌≡◌, List, Option, Some, None}
use Rattle.v_design.specs.Designs.{Machine}
use Rattle.cert_laws.specs.Replays.{RunLine, Replay, run_line}
use Rattle.cert_laws.specs.Valid.{CertLine}
use Rattle.cert_runs.specs.declared.asked_run.AskedRun.{AskedRun}
use Rattle.cert_runs.specs.declared.lines.Followed.{Followed}
use Rattle.cert_runs.specs.declared.lines.Followed.TheVariants as followed
use Rattle.cert_runs.specs.declared.lines.Taken.{Taken}
use Rattle.cert_runs.specs.declared.lines.Taken.TheVariants as taken
use Rattle.cert_runs.specs.Along.{Along, BreaksOff, ComesTo, run_in, along}
use Rattle.cert_runs.specs.AskedRuns.{KeepsAsked, SameAsked, asked_race, asked_bound}

-- a line of a run, and the lines that a run goes along
abbrev pub line_by : AskedRun → Machine → RunLine → Option Replay → Option Replay
line_by old machine line run = run_line (asked_race old) machine (asked_bound old) line run

abbrev pub along_of : AskedRun → Machine → List CertLine → Option Replay → Along
along_of old machine lines run = along (asked_race old) machine (Some (asked_bound old)) lines run

-- the first line is taken
abbrev pub TakenBy : Machine → CertLine → Option Replay → Taken → (old new : AskedRun) → Type 0
TakenBy machine said run taken.Goes old new =
    (line : RunLine) × (next : Replay) × (run_in said ≡ Some line) × (line_by old machine line run ≡ Some next) × KeepsAsked machine (Some next) new
TakenBy machine said run taken.Breaks old new = (line : RunLine) × (run_in said ≡ Some line) × (line_by old machine line run ≡ None)
TakenBy machine said run taken.Stops old new = (run_in said ≡ None) × KeepsAsked machine run new

pub record TakesLine (said : CertLine) (taken : Taken) (old new : AskedRun) : Type 0 where
  pub same : SameAsked old new
  pub takes : (machine : Machine) (run : Option Replay) → KeepsAsked machine run old → TakenBy machine said run taken old new

-- the lines of a run in front are followed just as far as the definition follows them, and where none isn't the run stands where the definition stands
abbrev pub AlongBy : Machine → List CertLine → Option Replay → Followed → (old new : AskedRun) → Type 0
AlongBy machine lines run (followed.Breaks count) old new = along_of old machine lines run ≡ BreaksOff count
AlongBy machine lines run (followed.Stops count) old new = (next : Option Replay) × (along_of old machine lines run ≡ ComesTo count next) × KeepsAsked machine next new

pub record GoesAlong (lines : List CertLine) (followed : Followed) (old new : AskedRun) : Type 0 where
  pub same : SameAsked old new
  pub goes : (machine : Machine) (run : Option Replay) → KeepsAsked machine run old → AlongBy machine lines run followed old new
