-- Numbers that are read back from a certificate's text (the format is this program's own).
use Rattle.std.specs.Prelude.{◌≤◌}
use Rattle.vf_base.specs.Base.{ReportedPair}
use Rattle.v_design.specs.Grades.{Detected, Possible, Undetected, FaultGrade, Judged, Raced, Looped}
use Rattle.cert_laws.specs.Claims.{most_long, most_short}
use Rattle.cert_laws.specs.Replays.{RunLine, SlotAt, PhaseNumber, StepsOf, UpdatesOf}
use Rattle.cert_laws.specs.Valid.{CertLine, GoodBegins, FaultyBegins, Runs, Closes, Formless}

-- the time of a pair has 64 bits, its phase and its lines have 32
pub record PairFits (pair : ReportedPair) : Type 0 where
  pub time : pair.time ≤ most_long
  pub phase : pair.phase ≤ most_short
  pub first : pair.first.line ≤ most_short
  pub second : pair.second.line ≤ most_short

-- the same of a grade
abbrev pub GradeFits : FaultGrade → Type 0
GradeFits (Judged (Detected time)) = time ≤ most_long
GradeFits (Judged (Possible time)) = time ≤ most_long
GradeFits (Judged Undetected) = Unit {0}
GradeFits (Raced side pair) = PairFits pair
GradeFits (Looped time) = time ≤ most_long

-- the numbers of a line of a run have 64 bits
abbrev pub RunFits : RunLine → Type 0
RunFits (SlotAt time) = time ≤ most_long
RunFits (PhaseNumber number) = number ≤ most_long
RunFits (StepsOf process count) = (process ≤ most_long) × (count ≤ most_long)
RunFits (UpdatesOf process count) = (process ≤ most_long) × (count ≤ most_long)

-- a line of a form, whose numbers have 64 bits
abbrev pub LineFits : CertLine → Type 0
LineFits GoodBegins = Unit {0}
LineFits FaultyBegins = Unit {0}
LineFits (Runs line) = RunFits line
LineFits Closes = Unit {0}
LineFits Formless = ⊥
