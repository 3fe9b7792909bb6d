-- The beginning and the end of a slot in lockstep (slots by IEEE 1364-2001, clause 5).
use Rattle.std.specs.Prelude.{◌≡◌, ◌≢◌, ℕ, ◌≤◌, false, List, Some, None}
use Rattle.std.specs.Option.{option_map}
use Rattle.four_value.specs.Values.{LogicValue}
use Rattle.vf_base.specs.Lists.{AllHold}
use Rattle.v_design.specs.Designs.{FlatDesign, StuckAt, faulty_machine}
use Rattle.v_design.specs.Assignments.{value_at}
use Rattle.v_design.specs.States.{State, ProcessState, LaterUpdate, TurnKind, process_at, found_or, turn_of, turned, time_turn}
use Rattle.v_design.specs.PhaseLogs.{phase_race}
use Rattle.v_design.specs.Runs.{turn_in_slot, most_steps}
use Rattle.v_design.specs.Grades.{Phase, Fine, slot_outcome}
use Rattle.machine_laws.specs.SlotLoop.{Moment, ComesTo, EndsAt, IsIdle, slot_from, phases_so_far}
use Rattle.copy_laws.specs.Beside.{Keeps}
use Rattle.copy_laws.specs.Differences.{Differences, own_of, Ascend, StandsFor, KeepsNothingEqual}
use Rattle.copy_laws.specs.Moves.{Within, apart_within}
use Rattle.copy_laws.specs.Rest.{within_of, SameLanes}
use Rattle.lockstep_laws.specs.Lockstep.{due_times, AreInLockstep}
use Rattle.lockstep_laws.specs.Turning.{turned_within}

-- A slot's end

-- the faulty machine's slot ends at a moment, is not hyperactive, and is fine where none of its phases has a race
pub record EndsInLockstep (design : FlatDesign) (fault : StuckAt) (own : Moment) : Type 0 where
  pub ends : EndsAt (faulty_machine design fault) false own
  pub fine : AllHold (λ (phase : Phase). phase_race (faulty_machine design fault) phase.begins phase.events ≡ None) (phases_so_far own) →
      slot_outcome (faulty_machine design fault) (slot_from (faulty_machine design fault) own.begins) ≡ Fine

-- in lockstep with a good state in which no event and no turn within the slot is possible, the faulty machine's slot ends
abbrev pub LockstepEnds : Type 0
LockstepEnds =
    (design : FlatDesign) (fault : StuckAt) (d : Within) (good : State) (own : Moment) → AreInLockstep d good own.state → ComesTo (faulty_machine design fault) own → own.steps ≤ most_steps →
    IsIdle good → turn_in_slot (turn_of good) ≡ None → EndsInLockstep design fault own

-- Between slots

-- differences between slots with which both machines go on in lockstep: no process stands elsewhere, and own updates are due at the times of the good ones
pub record MayGoInLockstep (d : Differences) (good : State) : Type 0 where
  pub activities : (process : ℕ) → own_of d.activities process ≡ None
  pub updates : (process : ℕ) (own : List LaterUpdate) → own_of d.updates process ≡ Some own → due_times own ≡ due_times (process_at good process).later

-- from such differences both machines begin their next slots in lockstep, which come at the same time where neither is to turn within the present one
pub record BeginsInLockstep (d : Differences) (good faulty : State) : Type 0 where
  pub turn : turn_in_slot (turn_of good) ≡ None → turn_in_slot (turn_of faulty) ≡ None → turn_of faulty ≡ turn_of good
  pub lockstep : (time : ℕ) → AreInLockstep (within_of d (time_turn time good)) (time_turn time good) (time_turn time faulty)

abbrev pub LockstepBegins : Type 0
LockstepBegins = (d : Differences) (good faulty : State) → StandsFor d good faulty → SameLanes good faulty → MayGoInLockstep d good → BeginsInLockstep d good faulty

-- some differences within a phase by lists: no process stands elsewhere, and its updates are those that are kept
pub record AreListed (w : Within) (d : Differences) (good : State) : Type 0 where
  pub values : (object : ℕ) → own_of d.values object ≡ w.values object
  pub activities : (process : ℕ) → own_of d.activities process ≡ None
  pub updates : (process : ℕ) → found_or (process_at good process).later (own_of d.updates process) ≡ (found_or (process_at good process) (w.processes process)).later

-- at a slot's end the good state with what is listed is the faulty one, and both may go on in lockstep
abbrev pub LockstepStops : Type 0
LockstepStops =
    (w : Within) (d : Differences) (good faulty : State) → AreInLockstep w good faulty → AreListed w d good → StandsFor d good faulty × MayGoInLockstep d good

-- Nothing that is kept is the good machine's

pub record KeepsNothingSame (d : Within) (good : State) : Type 0 where
  pub values : (object : ℕ) (own : LogicValue) → d.values object ≡ Some own → own ≢ value_at good.values object
  pub processes : (process : ℕ) (own : ProcessState) → d.processes process ≡ Some own → own ≢ process_at good process

-- the lists have just what is kept, each number once
pub record AreJustListed (w : Within) (d : Differences) : Type 0 where
  pub values : (object : ℕ) → own_of d.values object ≡ w.values object
  pub activities : (process : ℕ) → own_of d.activities process ≡ None
  pub updates : (process : ℕ) → own_of d.updates process ≡ option_map (λ (own : ProcessState). own.later) (w.processes process)
  pub values_ascend : Ascend d.values
  pub activities_ascend : Ascend d.activities
  pub updates_ascend : Ascend d.updates

pub record NothingBecomesSame : Type 0 where
  -- so it is where a slot begins
  pub begins : (d : Differences) (good : State) (time : ℕ) → MayGoInLockstep d good → KeepsNothingEqual d good → KeepsNothingSame (within_of d (time_turn time good)) (time_turn time good)
  -- it stays so where the good machine keeps what it has where the states are apart
  pub passes : (d : Within) (before later : State) → Keeps (apart_within d) later before → KeepsNothingSame d before → KeepsNothingSame d later
  -- and over a turn
  pub turns : (d : Within) (good faulty : State) (turn : TurnKind) → AreInLockstep d good faulty → KeepsNothingSame d good →
      KeepsNothingSame (turned_within good.time turn d) (turned turn good)
  -- so the lists keep nothing that is equal where a slot ends
  pub ends : (w : Within) (d : Differences) (good faulty : State) → AreInLockstep w good faulty → IsIdle good → KeepsNothingSame w good → AreJustListed w d →
      AreListed w d good × KeepsNothingEqual d good
