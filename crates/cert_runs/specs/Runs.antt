-- What stands for a run that the lines of a certificate go through (runs by IEEE 1364-2001, clause 5).
use Rattle.std.specs.Prelude.{◌≡◌, ℕ, Bool, true, false, Option, Some, None}
use Rattle.v_design.specs.Designs.{Machine}
use Rattle.cert_laws.specs.Replays.{RunLine, Replay, begun, next_line, run_line, is_through}
use Rattle.cert_replay.specs.declared.replaying.Replaying.{Replaying}
use Rattle.cert_replay.specs.Kept.{Keeps, claims_race, bound_kept, time_kept}
use Rattle.cert_runs.specs.declared.follow.CertRun.{CertRun}

-- Replays

-- what a line says of a run that has begun
abbrev pub said_by : Bool → ℕ → RunLine → Machine → Replay → Option Replay
said_by race bound line machine replay = next_line race machine bound line replay

-- whether a run that has begun is through to its bound is told
abbrev pub Tells : Bool → Replaying → Type 0
Tells through old = (machine : Machine) (replay : Replay) → Keeps machine replay old → through ≡ is_through (claims_race old) machine (bound_kept old) (Some replay)

-- Runs

-- whether a race is claimed of the run, and the time to which it goes
abbrev pub race_of : CertRun → Bool
race_of r = claims_race r.replaying

abbrev pub bound_of : CertRun → ℕ
bound_of r = bound_kept r.replaying

-- the present time
abbrev pub time_of : CertRun → ℕ
time_of r = time_kept r.replaying

-- what is kept stands for a run that may have begun
abbrev pub KeepsRun : Machine → Option Replay → CertRun → Type 0
KeepsRun machine None r = (r.begun ≡ false) × Keeps machine (begun machine) r.replaying
KeepsRun machine (Some replay) r = (r.begun ≡ true) × Keeps machine replay r.replaying

-- what is kept stands for some run
pub record IsRun (r : CertRun) : Type 0 where
  pub machine : Machine
  pub run : Option Replay
  pub keeps : KeepsRun machine run r

-- the run goes on as a definition says, where it does, else it fails there
abbrev pub RunGoesOn : Machine → Option Replay → Bool → CertRun → Type 0
RunGoesOn machine found true new = (next : Replay) × (found ≡ Some next) × KeepsRun machine (Some next) new
RunGoesOn machine found false new = found ≡ None

-- a line is followed from each run for which what was kept stood, exactly where the definition follows it
pub record FollowsLine (line : RunLine) (went : Bool) (old new : CertRun) : Type 0 where
  pub race : race_of new ≡ race_of old
  pub bound : bound_of new ≡ bound_of old
  pub goes_on : (machine : Machine) (run : Option Replay) → KeepsRun machine run old → RunGoesOn machine (run_line (race_of old) machine (bound_of old) line run) went new

-- whether the run is through to its bound is told
abbrev pub TellsThrough : Bool → CertRun → Type 0
TellsThrough through old = (machine : Machine) (run : Option Replay) → KeepsRun machine run old → through ≡ is_through (race_of old) machine (bound_of old) run
