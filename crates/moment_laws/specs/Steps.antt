-- The parts of passing a block: its changes and wakes, and then the runs that end in it, or the step of a lane (blocks by IEEE 1364-2001, clause 5).
use Rattle.std.specs.Prelude.{◌≡◌, ℕ, ◌+◌, ◌<◌, false, List, [], ◌∷◌, ◌++◌, map, filter, length, drop, set, get_or, Some, None, slice_get}
use Rattle.std.specs.List.{All}
use Rattle.vf_base.specs.Lists.{has}
use Rattle.v_design.specs.Accesses.{ObjectAccess}
use Rattle.v_design.specs.Designs.{FlatDesign, TestPlan, good_machine}
use Rattle.v_design.specs.Grades.{Phase}
use Rattle.v_design.specs.States.{Event, Step, LaneStep, Evaluation, NetUpdate, rest_of}
use Rattle.run_ends.specs.RunEnds.{Ender}
use Rattle.between_slots.specs.Between.{window_phases}
use Rattle.good_trace.specs.SlotsTold.{slot_run_ends}
use Rattle.trace_window.specs.Listed.{AreListed}
use Rattle.trace_window.specs.Moments.{window_events}
use Rattle.trace_window.specs.Writes.{Written, writes_from}
use Rattle.moment_parts.specs.Within.{written_within, put_all, AreWoken}
use Rattle.moment_parts.specs.StatesKept.{AreStatesOf}
use Rattle.moment_runs.specs.Taken.{StandEach, AreRunsTaken, HaveRuns, HaveFewRuns}
use Rattle.window_wakes.specs.Wakes.{WakeTold, comes_within}
use Rattle.moment_laws.specs.Shown.{MomentKept, processes_in}

-- nothing is told of a block
abbrev pub untold : MomentKept → MomentKept
untold kept = record kept { changed = []; acted = []; lane = None }

-- the processes of the wakes from a moment on and before a limit
abbrev pub woken_within : ℕ → ℕ → List WakeTold → List ℕ
woken_within first limit wakes = map (λ (wake : WakeTold). wake.process) (filter (comes_within first limit) wakes)

-- only values, where processes stand, and what is told have changed
pub record SameButPut (old new : MomentKept) : Type 0 where
  pub before : new.before ≡ old.before
  pub through : new.through ≡ old.through
  pub slot : new.slot ≡ old.slot
  pub phase : new.phase ≡ old.phase
  pub moment : new.moment ≡ old.moment
  pub time : new.time ≡ old.time
  pub later : new.later ≡ old.later
  pub lanes : new.lanes ≡ old.lanes
  pub runs : new.runs ≡ old.runs
  pub ran : new.ran ≡ old.ran
  pub lane : new.lane ≡ old.lane

-- the changes of a window's slot up to a limit are put, and the processes ready whose waits end by then
pub record PutsBlock (design : FlatDesign) (plan : TestPlan) (limit : ℕ) (wakes : List WakeTold) (old new : MomentKept) : Type 0 where
  pub same : SameButPut old new
  pub accesses : List (List ObjectAccess)
  pub listed : AreListed (good_machine design) (window_events design plan (old.before + old.slot) (old.before + old.slot + 1)) accesses
  pub values : new.values
      ≡ put_all (written_within old.moment limit (writes_from (length (window_events design plan old.before (old.before + old.slot))) accesses)) old.values
  pub changed : new.changed
      ≡ old.changed
      ++ map (λ (write : Written). write.object) (written_within old.moment limit (writes_from (length (window_events design plan old.before (old.before + old.slot))) accesses))
  pub states : AreWoken (woken_within old.moment limit wakes) old.states new.states
  pub acted : new.acted ≡ old.acted ++ woken_within old.moment limit wakes

-- the processes whose runs end in a slot, in order
abbrev pub slot_enders : FlatDesign → TestPlan → ℕ → ℕ → List ℕ
slot_enders design plan before number = map (λ (ender : Ender). ender.process) (slot_run_ends design plan before number)

-- only the processes and what is told of them have changed
pub record SameButTaken (old new : MomentKept) : Type 0 where
  pub before : new.before ≡ old.before
  pub through : new.through ≡ old.through
  pub slot : new.slot ≡ old.slot
  pub phase : new.phase ≡ old.phase
  pub moment : new.moment ≡ old.moment
  pub time : new.time ≡ old.time
  pub values : new.values ≡ old.values
  pub changed : new.changed ≡ old.changed

-- runs of processes end up to one of a process, and there are so many of each in the phase
pub record HasRuns (design : FlatDesign) (plan : TestPlan) (process : ℕ) (kept : MomentKept) : Type 0 where
  pub phase : Phase
  pub phase_is : slice_get (window_phases design plan kept.before kept.through) kept.phase ≡ Some phase
  pub others : List ℕ
  pub rest : List ℕ
  pub enders : drop kept.runs (slot_enders design plan kept.before (kept.before + kept.slot)) ≡ others ++ process ∷ rest
  pub once : has others process ≡ false
  pub low : All (λ own. own < length design.processes) (others ++ process ∷ [])
  pub there : HaveRuns design phase (others ++ process ∷ []) (processes_in kept)
  pub few : HaveFewRuns design phase
  pub each : StandEach design (processes_in kept)
  pub states : AreStatesOf design kept.states

-- these runs were taken
pub record TakesRuns (design : FlatDesign) (plan : TestPlan) (process : ℕ) (old new : MomentKept) : Type 0 where
  pub same : SameButTaken old new
  pub lanes : new.lanes ≡ old.lanes
  pub lane : new.lane ≡ old.lane
  pub phase : Phase
  pub phase_is : slice_get (window_phases design plan old.before old.through) old.phase ≡ Some phase
  pub others : List ℕ
  pub rest : List ℕ
  pub enders : drop old.runs (slot_enders design plan old.before (old.before + old.slot)) ≡ others ++ process ∷ rest
  pub once : has others process ≡ false
  pub taken : AreRunsTaken design phase (others ++ process ∷ []) (processes_in old) (processes_in new)
  pub runs : new.runs ≡ old.runs + length (others ++ process ∷ [])
  pub acted : new.acted ≡ old.acted ++ (others ++ process ∷ [])

-- the first update of a lane was taken
pub record TakesUpdate (process : ℕ) (old new : MomentKept) : Type 0 where
  pub same : SameButTaken old new
  pub processes : processes_in new ≡ processes_in old
  pub lanes : new.lanes ≡ set old.lanes process (rest_of (get_or old.lanes process []))
  pub lane : new.lane ≡ Some process
  pub runs : new.runs ≡ old.runs
  pub acted : new.acted ≡ old.acted

-- what a block takes that begins with an event, and what that asks for
abbrev pub CanTake : FlatDesign → TestPlan → Event → MomentKept → Type 0
CanTake design plan (Step process) kept = HasRuns design plan process kept
CanTake design plan (LaneStep process) kept = process < length kept.lanes
CanTake design plan (Evaluation node) kept = ⊥
CanTake design plan (NetUpdate node) kept = ⊥

abbrev pub Takes : FlatDesign → TestPlan → Event → MomentKept → MomentKept → Type 0
Takes design plan (Step process) old new = TakesRuns design plan process old new
Takes design plan (LaneStep process) old new = TakesUpdate process old new
Takes design plan (Evaluation node) old new = ⊥
Takes design plan (NetUpdate node) old new = ⊥
