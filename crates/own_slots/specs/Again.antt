-- A slot that is run again from its beginning, when some of its steps were taken before (slots and phases by IEEE 1364-2001, clause 5; steps by clause 9).
use Rattle.std.specs.Prelude.{◌≡◌, ℕ, ◌+◌, ◌<◌, ◌≤◌, Bool, false, List, ◌∷◌, ◌++◌, drop, length, Option, Some, nat_eq, find, slice_get}
use Rattle.vf_base.specs.Base.{process_number}
use Rattle.vf_base.specs.Lists.{AllHold}
use Rattle.v_design.specs.Designs.{Machine}
use Rattle.v_design.specs.Grades.{Phase, phases}
use Rattle.v_design.specs.OwnSteps.{good_runs, phases_if, process_runs, slot_beside}
use Rattle.v_design.specs.PhaseLogs.{is_step_of}
use Rattle.v_design.specs.Runs.{FirstSlot}
use Rattle.v_design.specs.States.{State, TurnKind, Event, Step}
use Rattle.machine_laws.specs.SlotLoop.{Moment, ComesTo, EndsAt, present_phase, slot_from, first_moment, after_event, after_events, after_turn}
use Rattle.own_counts.specs.Counts.{AtMostOwn, OwnLast, behind_event}
use Rattle.own_counts.specs.Slots.{OwnCountSoFar, behind_events}
use Rattle.good_runs.specs.Kept.{KeptAt, next_place, place_of}
use Rattle.good_runs.specs.declared.tried.TriedStep.{TriedStep}
use Rattle.own_slots.specs.Slots.{KeepsBeside, PhasesKeep, WereTried}

-- a step that was taken has the place of the next one of a process: its phase, its run and its steps before
pub record IsNextPlace (faulty : Machine) (at : Moment) (process : ℕ) (one : TriedStep) : Type 0 where
  pub phase_is : one.phase ≡ length at.ended
  pub process_is : process_number one.process ≡ process
  pub place : place_of one ≡ next_place 0 (process_runs faulty process (present_phase at))

-- these steps are kept of the slot from a moment on
pub record AreAhead (good faulty : Machine) (others : List Phase) (at : Moment) (tried : List TriedStep) : Type 0 where
  pub more : List Event
  pub later : List Phase
  pub first : List TriedStep
  pub rest : List TriedStep
  pub phases_are : phases faulty (slot_from faulty at.begins) ≡ at.ended ++ behind_events (present_phase at) more ∷ later
  pub keeps : KeepsBeside good faulty (slice_get others (length at.ended)) at.turn (length at.ended) at.phase_begins at.events more first
  pub keeps_later : PhasesKeep good faulty others (length at.ended + 1) later rest
  pub are : tried ≡ first ++ rest

-- in a slot that is run again, so many of the steps that were taken before have come, and so many others ticked: those that are left come from here on, and what came or ticked counts as own
pub record IsAgain (good faulty : Machine) (others : List Phase) (tried : List TriedStep) (at : Moment) (next ticked : ℕ) : Type 0 where
  pub few : next ≤ length tried
  pub ahead : AreAhead good faulty others at (drop next tried)
  pub counts : OwnCountSoFar good faulty others at (ticked + next)

-- a step of a process: what is kept of it, and how the second run goes on behind it
pub record ComesAgain (good faulty : Machine) (others : List Phase) (tried : List TriedStep) (at : Moment) (process next ticked : ℕ) (one : TriedStep) : Type 0 where
  pub kept : KeptAt (λ p. good_runs good p at.turn (slice_get others (length at.ended))) (λ p. 0) faulty (length at.ended) at.phase_begins at.events process one
  pub on : IsAgain good faulty others tried (after_event faulty (Step process) at) (next + 1) ticked

-- an event that is no step of a process
abbrev pub IsNoStep : Event → Type 0
IsNoStep event = (process : ℕ) → is_step_of process event ≡ false

-- The laws
pub record SecondRuns : Type 0 where
  -- the slot begins
  pub begins : (good faulty : Machine) (others : List Phase) (begins : State) (tried : List TriedStep) → WereTried good faulty others begins tried →
      IsAgain good faulty others tried (first_moment begins) 0 0
  -- events that are no steps of processes
  pub passes : (good faulty : Machine) (others : List Phase) (tried : List TriedStep) (at : Moment) (events : List Event) (next ticked : ℕ) → AllHold IsNoStep events →
      ComesTo faulty (after_events faulty events at) → IsAgain good faulty others tried at next ticked → IsAgain good faulty others tried (after_events faulty events at) next ticked
  -- the step that comes next among those that were taken: what is kept of it is so, and it isn't ticked again
  pub tells : (good faulty : Machine) (others : List Phase) (tried : List TriedStep) (at : Moment) (process next ticked : ℕ) (one : TriedStep) →
      ComesTo faulty (after_event faulty (Step process) at) → slice_get tried next ≡ Some one → IsNextPlace faulty at process one → IsAgain good faulty others tried at next ticked →
      ComesAgain good faulty others tried at process next ticked one
  -- another step, which doesn't tick
  pub follows : (good faulty : Machine) (others : List Phase) (tried : List TriedStep) (at : Moment) (process next ticked : ℕ) → ComesTo faulty (after_event faulty (Step process) at) →
      ((one : TriedStep) → slice_get tried next ≡ Some one → IsNextPlace faulty at process one → ⊥) → IsAgain good faulty others tried at next ticked →
      IsAgain good faulty others tried (after_event faulty (Step process) at) next ticked
  -- another step of a run whose steps all count as own, which ticks
  pub ticks : (good faulty : Machine) (others : List Phase) (tried : List TriedStep) (at : Moment) (process next ticked : ℕ) → ComesTo faulty (after_event faulty (Step process) at) →
      process < length faulty.design.processes →
      OwnLast (good_runs good process at.turn (slice_get others (length at.ended))) (process_runs faulty process (behind_event (present_phase at) (Step process))) →
      ((one : TriedStep) → slice_get tried next ≡ Some one → IsNextPlace faulty at process one → ⊥) → IsAgain good faulty others tried at next ticked →
      IsAgain good faulty others tried (after_event faulty (Step process) at) next (ticked + 1)
  -- a turn within the slot
  pub turns : (good faulty : Machine) (others : List Phase) (tried : List TriedStep) (at : Moment) (turn : TurnKind) (next ticked : ℕ) → ComesTo faulty (after_turn turn at) →
      IsAgain good faulty others tried at next ticked → IsAgain good faulty others tried (after_turn turn at) next ticked
  -- where the slot ends all have come, and what was taken before and what ticked now is at most the own steps of the slot
  pub ends : (good faulty : Machine) (good_slots : List FirstSlot) (found : Option FirstSlot) (tried : List TriedStep) (at : Moment) (hyper : Bool) (next ticked : ℕ) → ComesTo faulty at →
      EndsAt faulty hyper at → find (λ (other : FirstSlot). nat_eq other.begins.time at.begins.time) good_slots ≡ found → IsAgain good faulty (phases_if good found) tried at next ticked →
      AtMostOwn (slot_beside good faulty good_slots (slot_from faulty at.begins)) (ticked + length tried)
