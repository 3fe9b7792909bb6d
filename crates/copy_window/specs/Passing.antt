-- The grading of a fault through a window (strobes and slots by IEEE 1364-2001, clause 5).
use Rattle.std.specs.Prelude.{◌≡◌, ℕ, ◌<◌, List, [], Option, None, Some, drop, length, map, slice_get}
use Rattle.vf_base.specs.Base.{WatchedBit}
use Rattle.vf_base.specs.declared.finding.End.{End}
use Rattle.v_design.specs.Designs.{FlatDesign, StuckAt, TestPlan}
use Rattle.v_design.specs.Grades.{Judged, Raced}
use Rattle.v_design.specs.Plain.{grade_of}
use Rattle.kept_samples.specs.Plain.{sample_of}
use Rattle.copy_laws.specs.Differences.{Differences}
use Rattle.copy_laws.specs.Windows.{WindowEnd, IsOpen, IsThrough, IsRaced, IsBesideAt, time_at}
use Rattle.copy_between.specs.Beside.{KeepsWithin}
use Rattle.copy_room.specs.machine.declared.parts.Machine.{Machine as Simulated}
use Rattle.beside_laws.specs.GoodRuns.{IsOpenAt}
use Rattle.beside_laws.specs.Shards.{found_fault}
use Rattle.fault_strobes.specs.Full.{IsFull}
use Rattle.fault_strobes.specs.Said.{Said, keeps, plan_by, verdict_said}
use Rattle.window_grade.specs.Beside.{IsKnownBeside, WereTaken, tried_in}
use Rattle.window_grade.specs.declared.beside.RunBeside.{RunBeside}
use Rattle.window_grade.specs.Grading.{IsGradingAt, GradesThrough}
use Rattle.window_strobes.specs.Strobes.{AreStrobesOf, strobes_left}
use Rattle.window_strobes.specs.declared.strobes.WindowStrobes.{WindowStrobes}
use Rattle.vf_base.specs.declared.finding.Side.TheVariants.{Good}
use Rattle.copy_window.specs.ShardFaults.{IsShardFault, kept_by, said_by}
use Rattle.copy_window.specs.declared.fault.ShardFault.{ShardFault}

-- the grading of a fault stands at a window's beginning
abbrev pub IsGradingFrom : FlatDesign → TestPlan → StuckAt → ℕ → WindowStrobes → Simulated → Said → Type 0
IsGradingFrom design plan fault before strobes m said =
    IsGradingAt design plan fault (time_at design plan before) m (map sample_of strobes.samples.items) (strobes_left plan strobes) said

-- it may go through the window
pub record CanGradeWindow (watched : List WatchedBit) (strobes : WindowStrobes) (beside : RunBeside) (m : Simulated) (said : Said) : Type 0 where
  pub design : FlatDesign
  pub plan : TestPlan
  pub fault : StuckAt
  pub before : ℕ
  pub through : ℕ
  pub watched_are : plan.watched ≡ watched
  pub are : AreStrobesOf design plan before through strobes
  pub at : IsGradingFrom design plan fault before strobes m said
  pub known : (until : ℕ) → strobes.until ≡ Some until → IsKnownBeside design (plan_by (keeps said) plan) fault (time_at design plan before) until beside
  pub taken : WereTaken design (plan_by (keeps said) plan) fault beside

-- it came to the time to which the window leads, if there is one, or ended by then
abbrev pub ComesToTime : FlatDesign → TestPlan → StuckAt → ℕ → List ℕ → Option ℕ → Option End → Simulated → Said → Type 0
ComesToTime design plan fault before later None end m said = (end ≡ None) × IsGradingAt design plan fault (time_at design plan before) m [] later said
ComesToTime design plan fault before later (Some until) end m said = GradesThrough design plan fault later until end m said

-- behind a window that ends so, the strobes' verdict or the good machine's race ends it; where slots come nothing does
abbrev pub EndsBehind : WindowEnd → Said → Option End → Type 0
EndsBehind IsOpen said end = end ≡ None
EndsBehind IsThrough said end = (own : End) × (end ≡ Some own) × (grade_of own ≡ Judged (verdict_said said))
EndsBehind (IsRaced pair) said end = (own : End) × (end ≡ Some own) × (grade_of own ≡ Raced Good pair)

-- it goes on behind a window after which slots come
pub record GoesOnBehind (design : FlatDesign) (plan : TestPlan) (fault : StuckAt) (through : ℕ) (later : List ℕ) (m : Simulated) (said : Said) : Type 0 where
  pub time : ℕ
  pub runs_on : IsOpenAt design plan through time
  pub at : IsGradingAt design plan fault (Some time) m [] later said

-- it went through the window: it goes on, or it ended and this is the grade
abbrev pub PassesWindow : FlatDesign → TestPlan → StuckAt → ℕ → List ℕ → Option End → Simulated → Said → Type 0
PassesWindow design plan fault through later None m said = GoesOnBehind design plan fault through later m said
PassesWindow design plan fault through later (Some end) m said =
    ((d : Differences) → IsBesideAt design (plan_by (keeps said) plan) through (found_fault fault d (grade_of end))) × IsFull design plan fault (grade_of end) said

-- a fault of which nothing was found may be graded through a window by its faulty machine
pub record CanSettle (design : FlatDesign) (plan : TestPlan) (before through : ℕ) (strobes : WindowStrobes) (beside : RunBeside) (m : Simulated) (own : ShardFault) : Type 0 where
  pub fault : StuckAt
  pub listed : slice_get plan.faults own.copy.fault ≡ Some fault
  pub none : own.end ≡ None
  pub within : KeepsWithin (length design.objects) (length design.processes) own.copy
  pub are : AreStrobesOf design plan before through strobes
  pub at : IsGradingFrom design plan fault before strobes m (said_by own)
  -- beside the good machine's slots; all steps that were taken before were taken between
  pub known : (until : ℕ) → strobes.until ≡ Some until → IsKnownBeside design (plan_by (kept_by own) plan) fault (time_at design plan before) until beside
  pub taken : WereTaken design (plan_by (kept_by own) plan) fault beside
  pub all : tried_in beside (time_at design plan before) (time_at design plan through) ≡ length beside.tried.now

-- a fault whose grading goes on behind a window, up to whose end so many strobes come, is kept by its copy
pub record StaysOpen (design : FlatDesign) (plan : TestPlan) (through passed : ℕ) (m : Simulated) (own : ShardFault) : Type 0 where
  pub fault : StuckAt
  pub listed : slice_get plan.faults own.copy.fault ≡ Some fault
  pub none : own.end ≡ None
  pub within : KeepsWithin (length design.objects) (length design.processes) own.copy
  pub goes : GoesOnBehind design plan fault through (drop passed plan.strobes) m (said_by own)

-- a fault before the first slot, and the first window
pub record CanBegin (design : FlatDesign) (plan : TestPlan) (before through : ℕ) (strobes : WindowStrobes) (fault : StuckAt) (own : ShardFault) : Type 0 where
  pub at_start : before ≡ 0
  pub listed : slice_get plan.faults own.copy.fault ≡ Some fault
  pub none : own.end ≡ None
  pub within : KeepsWithin (length design.objects) (length design.processes) own.copy
  pub are : AreStrobesOf design plan before through strobes

-- a fault behind so many slots of which nothing was found, and the next window
pub record CanResume (design : FlatDesign) (plan : TestPlan) (before through : ℕ) (strobes : WindowStrobes) (fault : StuckAt) (own : ShardFault) : Type 0 where
  pub some : 0 < before
  pub stands : IsShardFault design plan before strobes.passed own
  pub listed : slice_get plan.faults own.copy.fault ≡ Some fault
  pub none : own.end ≡ None
  pub are : AreStrobesOf design plan before through strobes
