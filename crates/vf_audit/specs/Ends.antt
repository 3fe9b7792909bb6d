-- What both runs of a certificate show of its claim (runs and phases by IEEE 1364-2001, clause 5).
use Rattle.std.specs.Prelude.{◌≡◌, Bool, true, false, List, [], map, Option, Some, None}
use Rattle.vf_base.specs.declared.finding.Side.{Side}
use Rattle.vf_base.specs.declared.finding.Side.TheVariants.{Good, Faulty}
use Rattle.vf_base.specs.declared.finding.Pair.{Pair}
use Rattle.vf_base.specs.declared.finding.End.{End}
use Rattle.v_design.specs.Designs.{FlatDesign, TestPlan, StuckAt}
use Rattle.v_design.specs.Plain.{grade_of}
use Rattle.v_design.specs.Grades.{Sample, FaultGrade, Judged, Raced, Looped}
use Rattle.v_design.specs.Laws.{NamesConflict, machine_of}
use Rattle.kept_samples.specs.Plain.{sample_of}
use Rattle.cert_laws.specs.Claims.{Claim}
use Rattle.cert_laws.specs.Replays.{Replay}
use Rattle.cert_laws.specs.Valid.{stands}
use Rattle.cert_laws.specs.Written.{claim_as}
use Rattle.cert_runs.specs.declared.asked.Shown.{Shown}
use Rattle.cert_runs.specs.declared.asked.Shown.TheVariants as shown

-- the samples that a run shows, none where it shows something else
abbrev pub samples_in : Shown → List Sample
samples_in (shown.Samples samples) = map sample_of samples.items
samples_in (shown.Conflict pair) = []
samples_in shown.Nothing = []

-- the pair that a run shows, if it shows one
abbrev pub pair_in : Shown → Option Pair
pair_in (shown.Samples samples) = None
pair_in (shown.Conflict pair) = pair
pair_in shown.Nothing = None

-- what the run of a side shows
abbrev pub shown_on : Side → Shown → Shown → Shown
shown_on Good good faulty = good
shown_on Faulty good faulty = faulty

-- a race names two conflicting accesses of a legal order of its side
abbrev pub RaceHolds : FlatDesign → StuckAt → FaultGrade → Type 0
RaceHolds design fault (Judged verdict) = Unit {0}
RaceHolds design fault (Raced side pair) = NamesConflict (machine_of side design fault) pair
RaceHolds design fault (Looped time) = Unit {0}

-- the claimed end, exactly where a test holds
abbrev pub JudgedBy : Bool → End → Option End → Type 0
JudgedBy test claimed None = test ≡ false
JudgedBy test claimed (Some end) = (test ≡ true) × (end ≡ claimed)

-- an end that claims what is claimed, exactly where both runs show it
abbrev pub EndBy : FlatDesign → TestPlan → StuckAt → Claim → (good faulty : Option Replay) → Option End → Type 0
EndBy design plan fault claim good faulty None = stands design plan fault claim good faulty ≡ false
EndBy design plan fault claim good faulty (Some end) =
    (stands design plan fault claim good faulty ≡ true) × (claim_as design (grade_of end) ≡ Some claim) × RaceHolds design fault (grade_of end)
