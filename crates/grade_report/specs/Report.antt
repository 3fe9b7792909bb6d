-- The text of a report (the format is this program's own).
use Rattle.std.specs.Prelude.{ℕ, Bool, true, false, List, [], ◌∷◌, ◌++◌, codes, count_by, length}
use Rattle.std.specs.Fmt.{decimal}
use Rattle.vf_base.specs.Base.{ReportedAccess, ReportedPair}
use Rattle.vf_base.specs.declared.finding.Side.{Side}
use Rattle.vf_base.specs.declared.finding.Side.TheVariants.{Good, Faulty}
use Rattle.vf_base.specs.declared.finding.AccessKind.{AccessKind}
use Rattle.vf_base.specs.declared.finding.AccessKind.TheVariants.{Read, Write, Await, Ended, Held, Settle}
use Rattle.vf_base.specs.Lists.{joined, zip_with}
use Rattle.v_design.specs.Designs.{FlatDesign, StuckAt}
use Rattle.v_design.specs.Sites.{site_name}
use Rattle.v_design.specs.Grades.{Verdict, Detected, Possible, Undetected, FaultGrade, Judged, Raced, Looped}
use Rattle.grade_report.specs.Objects.{object_text}

-- Accesses

-- the word of an access
abbrev pub kind_text : AccessKind → List ℕ
kind_text Read = codes "read"
kind_text Write = codes "write"
kind_text Await = codes "await"
kind_text Ended = codes "ended"
kind_text Held = codes "held"
kind_text Settle = codes "settle"

-- a word, and a number
unfoldable pub counted : List ℕ → ℕ → List ℕ
counted word count = word ++ decimal count

-- an access: its kind, its object, its process and its line
abbrev pub access_text : FlatDesign → ReportedAccess → List ℕ
access_text design access = kind_text access.kind ++ 32 ∷ [] ++ object_text design access.object ++ counted (codes " p") access.process ++ counted (codes " l") access.line

-- the machine that a race is in
abbrev pub side_text : Side → List ℕ
side_text Good = codes " race good"
side_text Faulty = codes " race faulty"

-- a race: its side, its time and phase, and its accesses, the earlier one first
abbrev pub race_text : FlatDesign → Side → ReportedPair → List ℕ
race_text design side pair =
    side_text side ++ counted (codes " ") pair.time ++ counted (codes ".") pair.phase ++ 32 ∷ [] ++ access_text design pair.first ++ 32 ∷ [] ++ access_text design pair.second

-- Lines

-- sa0 or sa1
abbrev pub held_text : Bool → List ℕ
held_text false = codes " sa0"
held_text true = codes " sa1"

-- what the strobes say
abbrev pub verdict_text : Verdict → List ℕ
verdict_text (Detected time) = counted (codes " detected ") time
verdict_text (Possible time) = counted (codes " possible ") time
verdict_text Undetected = codes " undetected"

-- how a grading ended
abbrev pub grade_text : FlatDesign → FaultGrade → List ℕ
grade_text design (Judged verdict) = verdict_text verdict
grade_text design (Raced side pair) = race_text design side pair
grade_text design (Looped time) = counted (codes " hyper ") time

-- the line of a fault, with how its grading ended
unfoldable pub fault_line : FlatDesign → StuckAt → FaultGrade → List ℕ
fault_line design fault grade = site_name design fault.site ++ held_text fault.value ++ grade_text design grade ++ 10 ∷ []

-- Totals

-- a detection
abbrev pub is_detected : FaultGrade → Bool
is_detected (Judged (Detected time)) = true
is_detected (Judged (Possible time)) = false
is_detected (Judged Undetected) = false
is_detected (Raced side pair) = false
is_detected (Looped time) = false

-- a possible detection
abbrev pub is_possible : FaultGrade → Bool
is_possible (Judged (Detected time)) = false
is_possible (Judged (Possible time)) = true
is_possible (Judged Undetected) = false
is_possible (Raced side pair) = false
is_possible (Looped time) = false

-- an undetected fault
abbrev pub is_undetected : FaultGrade → Bool
is_undetected (Judged (Detected time)) = false
is_undetected (Judged (Possible time)) = false
is_undetected (Judged Undetected) = true
is_undetected (Raced side pair) = false
is_undetected (Looped time) = false

-- a race
abbrev pub is_race : FaultGrade → Bool
is_race (Judged verdict) = false
is_race (Raced side pair) = true
is_race (Looped time) = false

-- a loop of the faulty machine
abbrev pub is_hyper : FaultGrade → Bool
is_hyper (Judged verdict) = false
is_hyper (Raced side pair) = false
is_hyper (Looped time) = true

-- the line of the totals
abbrev pub total_line : List FaultGrade → List ℕ
total_line grades =
    counted (codes "total ") (length grades) ++ counted (codes " detected ") (count_by is_detected grades) ++ counted (codes " possible ") (count_by is_possible grades)
    ++ counted (codes " undetected ") (count_by is_undetected grades) ++ counted (codes " race ") (count_by is_race grades) ++ counted (codes " hyper ") (count_by is_hyper grades) ++ 10 ∷ []

-- the lines of some faults, in order
abbrev pub fault_lines : FlatDesign → List StuckAt → List FaultGrade → List ℕ
fault_lines design faults grades = joined (zip_with (fault_line design) faults grades)

-- the whole report: a line for each listed fault, in list order, with its own site and its grade, then the totals
abbrev pub report_text : FlatDesign → List StuckAt → List FaultGrade → List ℕ
report_text design faults grades = codes "vfault 1" ++ 10 ∷ [] ++ fault_lines design faults grades ++ total_line grades
