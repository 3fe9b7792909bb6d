-- A machine at the beginning and at the end of a slot and of its phases (IEEE 1364-2001, clause 5).
use Rattle.std.specs.Prelude.{◌≡◌, ℕ, ◌+◌, ◌≤◌, Bool, true, false, Option, Some, None}
use Rattle.std.specs.Option.{option_map}
use Rattle.vf_base.specs.Base.{reported_pair}
use Rattle.vf_base.specs.declared.finding.Pair.{Pair}
use Rattle.v_design.specs.Grades.{SlotOutcome, Hyper, race_or_fine}
use Rattle.v_design.specs.Designs.{Machine}
use Rattle.v_design.specs.States.{State, turn_of}
use Rattle.v_design.specs.Runs.{most_steps, turn_in_slot}
use Rattle.causal_monitor.specs.declared.slot.Turn.{Turn}
use Rattle.causal_monitor.specs.declared.slot.Turn.TheVariants.{Time}
use Rattle.causal_monitor.specs.declared.slot.SlotLog.{SlotLog}
use Rattle.machine_laws.specs.SlotLoop.{Moment, EndsAt, IsIdle, first_moment}
use Rattle.machine.specs.declared.end.SlotEnd.{SlotEnd}
use Rattle.machine.specs.declared.guide.Guide.{Guide}
use Rattle.machine.specs.declared.moves.Made.{Made}
use Rattle.machine.specs.declared.moves.Made.TheVariants.{ProcessStep, LaneStep, Uncounted, Nothing}
use Rattle.machine.specs.declared.parts.Machine.{Machine as Simulated}
use Rattle.machine.specs.declared.parts.Stage.{Stage}
use Rattle.machine.specs.declared.parts.Stage.TheVariants.{Between, Over}
use Rattle.machine.specs.Standing.{machine_kept, state_kept, begins_next, notes_runs, first_turn, BeginsInFirstRun, IsStanding, RunsSlot}
use Rattle.machine.specs.Moments.{IsAt, moves_so_far}
use Rattle.machine.specs.Guides.{Counts, StaysGuide}

-- Moves

-- a machine stands in the slot that a state begins, so many process and lane steps and at least so many moves into it, and a counter went from one number to another
pub record Runs (machine : Machine) (first : Turn) (begins : State) (steps : ℕ) (guide : Guide) (before now moves : ℕ) (m : Simulated) (log : SlotLog) : Type 0 where
  pub at : Moment
  pub is : IsAt machine first at m log
  pub begins_is : at.begins ≡ begins
  pub steps_is : at.steps ≡ steps
  pub counts : Counts guide machine at before now
  pub moves_are : moves ≤ moves_so_far at

-- a machine stands at the beginning of some slot
pub record IsBegun (guide : Guide) (now : ℕ) (m : Simulated) (log : SlotLog) : Type 0 where
  pub first : Turn
  pub begins : State
  pub runs : Runs (machine_kept m) first begins 0 guide now now 0 m log

-- from wherever the machine stood in a slot, a turn within the slot begins its next phase
pub record TurnsPhase (old new : Simulated) (log_old log_new : SlotLog) : Type 0 where
  pub notes_are : notes_runs new ≡ notes_runs old
  pub leads : (machine : Machine) (first : Turn) (begins : State) (steps : ℕ) (guide : Guide) (before now moves : ℕ) →
      Runs machine first begins steps guide before now moves old log_old → steps ≤ most_steps → Runs machine first begins steps guide before now (moves + 1) new log_new

-- neither an event nor a turn within the slot is possible
pub record IsQuiet (state : State) : Type 0 where
  pub idle : IsIdle state
  pub no_turn : turn_in_slot (turn_of state) ≡ None

-- how many process and lane steps were made
abbrev pub steps_made : Made → ℕ
steps_made ProcessStep = 1
steps_made LaneStep = 1
steps_made Uncounted = 0
steps_made Nothing = 0

-- how many moves
abbrev pub moves_made : Made → ℕ
moves_made ProcessStep = 1
moves_made LaneStep = 1
moves_made Uncounted = 1
moves_made Nothing = 0

-- nothing was made only where the slot is at its end
abbrev pub QuietIfNothing : Made → State → Type 0
QuietIfNothing ProcessStep state = Unit {0}
QuietIfNothing LaneStep state = Unit {0}
QuietIfNothing Uncounted state = Unit {0}
QuietIfNothing Nothing state = IsQuiet state

-- from wherever the machine stood in a slot, it made a move of it, and a counter went on
pub record MakesMove (made : Made) (guide_old guide_new : Guide) (now after : ℕ) (old new : Simulated) (log_old log_new : SlotLog) : Type 0 where
  pub goes_on : (machine : Machine) (first : Turn) (begins : State) (steps before moves : ℕ) → Runs machine first begins steps guide_old before now moves old log_old → steps ≤ most_steps →
      Runs machine first begins (steps + steps_made made) guide_new before after (moves + moves_made made) new log_new
  pub stays : StaysGuide guide_old guide_new
  pub quiet : QuietIfNothing made (state_kept new)
  pub notes_are : notes_runs new ≡ notes_runs old

-- The end

-- the machine stands at the end of the slot that a state begins
pub record EndsSlot (machine : Machine) (first : Turn) (begins : State) (hyper : Bool) (m : Simulated) (log : SlotLog) : Type 0 where
  pub at : Moment
  pub is : IsAt machine first at m log
  pub begins_is : at.begins ≡ begins
  pub ends : EndsAt machine hyper at
  pub idle : hyper ≡ false → IsIdle at.state
  pub no_turn : hyper ≡ false → turn_in_slot (turn_of at.state) ≡ None

-- and a counter went so far
pub record EndsCounted (machine : Machine) (first : Turn) (begins : State) (hyper : Bool) (guide : Guide) (before now : ℕ) (m : Simulated) (log : SlotLog) : Type 0 where
  pub ends : EndsSlot machine first begins hyper m log
  pub counts : Counts guide machine ends.at before now

-- from the beginning of a slot the machine came to its end, hyperactive or not
pub record ComesToEnd (hyper : Bool) (guide_old guide_new : Guide) (before now : ℕ) (old new : Simulated) (log_old log_new : SlotLog) : Type 0 where
  pub notes_are : notes_runs new ≡ notes_runs old
  pub stays : StaysGuide guide_old guide_new
  pub ends : (machine : Machine) (first : Turn) (begins : State) → Runs machine first begins 0 guide_old before before 0 old log_old →
      EndsCounted machine first begins hyper guide_new before now new log_new

-- the same of some slot
pub record IsEnded (hyper : Bool) (m : Simulated) (log : SlotLog) : Type 0 where
  pub first : Turn
  pub begins : State
  pub ends : EndsSlot (machine_kept m) first begins hyper m log

-- the next slot begins, with an empty log
pub record BeginsSlotHere (old new : Simulated) (log : SlotLog) : Type 0 where
  pub notes_are : notes_runs new ≡ notes_runs old
  pub machine_is : machine_kept new ≡ machine_kept old
  pub stands : (begins : State) → begins_next old ≡ Some begins → IsAt (machine_kept old) (first_turn old.stage) (first_moment begins) new log

-- the outcome of a slot, by whether it is hyperactive and by its first race
abbrev pub outcome_told : Bool → Option Pair → SlotOutcome
outcome_told true race = Hyper
outcome_told false race = race_or_fine (option_map reported_pair race)

-- where a machine stands after a slot
abbrev pub stage_after : Bool → Stage
stage_after true = Over
stage_after false = Between

-- the slot is at its end: its last phase is recorded, and the machine stands between two slots
pub record FinishesSlot (hyper : Bool) (end : SlotEnd) (old new : Simulated) (log_old log_new : SlotLog) : Type 0 where
  pub machine_is : machine_kept new ≡ machine_kept old
  pub notes_are : notes_runs new ≡ notes_runs old
  pub turn_is : first_turn new.stage ≡ Time
  pub runs : (machine : Machine) (first : Turn) (begins : State) → EndsSlot machine first begins hyper old log_old → RunsSlot machine begins first end new log_new
  pub standing : (machine : Machine) (first : Turn) (begins : State) → BeginsInFirstRun machine begins → EndsSlot machine first begins hyper old log_old → IsStanding new
