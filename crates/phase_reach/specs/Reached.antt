-- What the writes of a phase reach (continuous assignments, gates and combinational blocks by IEEE 1364-2001, clauses 6 and 7).
use Rattle.std.specs.Prelude.{◌≡◌, ◌<◌, ◌≤◌, ℕ, true, List, nat_lt}
use Rattle.v_design.specs.Paths.{paths}
use Rattle.v_design.specs.Designs.{FlatDesign, TestPlan, good_machine}
use Rattle.copy_laws.specs.Filter.{IsIn}
use Rattle.trace_window.specs.Moments.{window_events}
use Rattle.trace_window.specs.Touched.{written_at}
use Rattle.trace_window.specs.Writes.{Written}
use Rattle.reach_search.specs.Reach.{ReachKept, is_reached}
use Rattle.lockstep_notes.specs.Notes.{some_reaches}
use Rattle.phase_reach.specs.Phases.{NotedPhase}

-- all that one of some objects reaches is among what is reached
abbrev pub AreReached : FlatDesign → List ℕ → ReachKept → Type 0
AreReached design changed reached = (object : ℕ) → some_reaches design changed object ≡ true → is_reached reached object ≡ true

-- all that the writes of the good machine in a window reach, from one moment to before another, is
abbrev pub MomentsAreReached : FlatDesign → TestPlan → ℕ → ℕ → ℕ → ℕ → ReachKept → Type 0
MomentsAreReached design plan begins ends first end reached =
    (source moment object : ℕ) → first ≤ moment → moment < end → written_at (good_machine design) (window_events design plan begins ends) source moment ≡ true →
    nat_lt 0 (paths design source object) ≡ true → is_reached reached object ≡ true

-- all that its writes in a phase reach is
abbrev pub PhaseIsReached : NotedPhase → ReachKept → Type 0
PhaseIsReached phase reached = MomentsAreReached phase.design phase.plan phase.begins phase.ends phase.notes.first phase.end reached

-- all that some writes reach from one moment to before another is
abbrev pub WritesAreReached : FlatDesign → ℕ → ℕ → List Written → ReachKept → Type 0
WritesAreReached design first end writes reached =
    (write : Written) → IsIn write writes → first ≤ write.moment → write.moment < end → (object : ℕ) → nat_lt 0 (paths design write.object object) ≡ true → is_reached reached object ≡ true
