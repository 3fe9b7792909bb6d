-- What stands for a replay (runs by IEEE 1364-2001, clause 5).
use Rattle.std.specs.Prelude.{◌≡◌, ℕ, ◌+◌, Bool, true, false, List, [], ◌∷◌, ◌++◌, length, Option, Some, None, ◌≤◌, ◌⊎◌}
use Rattle.v_design.specs.PlainDesigns.{design_of}
use Rattle.v_design.specs.Designs.{Machine}
use Rattle.v_design.specs.States.{State, Event, Step, LaneStep, TurnKind, is_quiescent}
use Rattle.v_design.specs.Runs.{happened, most_steps}
use Rattle.machine_laws.specs.SlotLoop.{AwaitsStep}
use Rattle.v_design.specs.Grades.{Phase, first_race}
use Rattle.v_design.specs.PhaseLogs.{log_of}
use Rattle.causal_monitor.specs.Phases.{IsLogOf}
use Rattle.causal_monitor.specs.declared.slot.Turn.{Turn}
use Rattle.slot_record.specs.SlotRecords.{RecordedSlot}
use Rattle.process_table.specs.Arranged.{IsKept, table_of}
use Rattle.machine_events.specs.Parts.{AreBothOf, IsAmid}
use Rattle.race_laws.specs.Writes.{WritesAreOf}
use Rattle.cert_laws.specs.Replays.{RunLine, StepsOf, UpdatesOf, Replay, may_end}
use Rattle.cert_replay.specs.declared.replaying.Replaying.{Replaying}
use Rattle.cert_replay.specs.declared.replaying.Stepper.{Stepper}
use Rattle.cert_replay.specs.declared.replaying.Stepper.TheVariants.{Process, Lane}

-- a step of a process or of its lane, and the line of a run that says so many of them
abbrev pub event_by : Stepper → ℕ → Event
event_by Process process = Step process
event_by Lane process = LaneStep process

abbrev pub line_by : Stepper → ℕ → ℕ → RunLine
line_by Process process count = StepsOf process count
line_by Lane process count = UpdatesOf process count

-- whether a race is claimed of the run, and the time to which it goes
abbrev pub claims_race : Replaying → Bool
claims_race r = r.race

abbrev pub bound_kept : Replaying → ℕ
bound_kept r = r.bound

-- the present time
abbrev pub time_kept : Replaying → ℕ
time_kept r = (table_of r.table).time

-- the phase that goes on, after a turn
abbrev pub present_phase : Option TurnKind → Replay → Phase
present_phase turn replay = record { turn = turn; begins = replay.begins; events = replay.events }

-- so many phases of a slot ended: at most as many as it has steps, or one more where a step comes first in the present phase
abbrev pub ArePhasesFew : (ended steps : ℕ) → State → Type 0
ArePhasesFew ended steps state = (ended ≤ steps) ⊎ ((ended ≤ steps + 1) × AwaitsStep state)

-- what is kept stands for a replay but for its moves
pub record Keeps (machine : Machine) (replay : Replay) (r : Replaying) : Type 0 where
  pub first : Turn
  pub before : List Phase
  pub turn : Option TurnKind
  pub amid : IsAmid machine first before (present_phase turn replay) r.nets r.table r.record r.log
  pub now_is : replay.now ≡ happened machine replay.begins replay.events
  pub number_is : replay.number ≡ length before + 1
  pub steps_is : replay.steps ≡ r.steps
  pub graph_is : design_of r.graph.now.design.now ≡ machine.design
  -- what was to be written as the phase began is of the design
  pub writes : WritesAreOf machine.design replay.begins
  pub most : r.steps ≤ most_steps
  pub few : ArePhasesFew (length before) replay.steps replay.now
  -- unless a race is claimed, no phase of the slot that ended has a conflict
  pub clear : r.race ≡ false → first_race machine 1 before ≡ None

-- the same where the replay's phase is at its end and is logged, as the last so far
pub record HasEnded (machine : Machine) (replay : Replay) (r : Replaying) : Type 0 where
  pub first : Turn
  pub before : List Phase
  pub earlier : List Phase
  pub turn : Option TurnKind
  pub last : before ≡ earlier ++ present_phase turn replay ∷ []
  pub names : IsLogOf machine.design (log_of machine replay.begins replay.events)
  pub recorded : RecordedSlot machine first before r.record r.log
  pub both : AreBothOf machine replay.now r.nets r.table
  pub arranged : IsKept r.table
  pub quiescent : is_quiescent replay.now ≡ true
  pub number_is : replay.number ≡ length before
  pub steps_is : replay.steps ≡ r.steps
  pub graph_is : design_of r.graph.now.design.now ≡ machine.design
  pub writes : WritesAreOf machine.design replay.now
  pub most : r.steps ≤ most_steps
  pub few : length before ≤ replay.steps + 1
  pub clear : r.race ≡ false → first_race machine 1 before ≡ None

-- what is kept stands for some replay
pub record IsReplaying (r : Replaying) : Type 0 where
  pub machine : Machine
  pub replay : Replay
  pub keeps : Keeps machine replay r

-- the same where its phase is at its end
pub record IsAtPhaseEnd (r : Replaying) : Type 0 where
  pub machine : Machine
  pub replay : Replay
  pub ended : HasEnded machine replay r

-- the claim and the bound of the run stay
pub record SameRun (old new : Replaying) : Type 0 where
  pub race : claims_race new ≡ claims_race old
  pub bound : bound_kept new ≡ bound_kept old

-- the replay goes on as a definition says, where it does, else it fails there
abbrev pub GoesOn : Machine → Option Replay → Bool → Replaying → Type 0
GoesOn machine found true new = (next : Replay) × (found ≡ Some next) × Keeps machine next new
GoesOn machine found false new = found ≡ None

-- the same from each replay for which what was kept stood
pub record Follows (found : Machine → Replay → Option Replay) (went : Bool) (old new : Replaying) : Type 0 where
  pub same : SameRun old new
  pub goes_on : (machine : Machine) (replay : Replay) → Keeps machine replay old → GoesOn machine (found machine replay) went new

-- the phase ends, where the definition lets it
abbrev pub EndsIf : Bool → Machine → Replay → (old new : Replaying) → Type 0
EndsIf true machine replay old new = (may_end (claims_race old) machine replay ≡ true) × HasEnded machine replay new
EndsIf false machine replay old new = may_end (claims_race old) machine replay ≡ false

pub record EndsPhase (ended : Bool) (old new : Replaying) : Type 0 where
  pub same : SameRun old new
  pub ends : (machine : Machine) (replay : Replay) → Keeps machine replay old → EndsIf ended machine replay old new

-- a turn begins the next phase as a definition says, where it does
pub record Turns (found : Replay → Option Replay) (went : Bool) (old new : Replaying) : Type 0 where
  pub same : SameRun old new
  pub goes_on : (machine : Machine) (replay : Replay) → HasEnded machine replay old → GoesOn machine (found replay) went new
