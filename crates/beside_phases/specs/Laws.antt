-- Steps of the faulty machine's own and numbers of its runs, from place to place of a slot in lockstep (slots, phases and blocks by IEEE 1364-2001, clause 5; process runs by clause 9).
use Rattle.std.specs.Prelude.{◌≡◌, ℕ, ◌+◌, List, [], ◌∷◌, ◌++◌, length, Some}
use Rattle.v_design.specs.Designs.{FlatDesign, StuckAt, TestPlan, good_machine, faulty_machine}
use Rattle.v_design.specs.Grades.{Phase, phases}
use Rattle.v_design.specs.Runs.{FirstSlot}
use Rattle.v_design.specs.States.{State, Event, TurnKind}
use Rattle.machine_laws.specs.SlotLoop.{Moment, first_moment, after_events, after_turn}
use Rattle.block_filter.specs.Blocks.{BlockPair}
use Rattle.phase_blocks.specs.Blocks.{IsBetweenRuns}
use Rattle.race_notes.specs.Notes.{NotesKept}
use Rattle.trace_window.specs.Moments.{window_events}
use Rattle.good_runs.specs.declared.tried.TriedStep.{TriedStep}
use Rattle.own_slots.specs.Slots.{OwnSoFar}
use Rattle.run_numbers.specs.declared.numbers.RunApart.{RunApart}
use Rattle.lockstep_block.specs.Blocks.{IsPhaseBeside}
use Rattle.lockstep_block.specs.lockstep_slots.Kept.{LockstepKept}
use Rattle.lockstep_block.specs.lockstep_slots.Places.{Place, behind_events, first_place, next_phase}
use Rattle.lockstep_block.specs.lockstep_steps.Going.{IsGoing}
use Rattle.lockstep_block.specs.window_places.Windows.{TablesLeave}

-- at a place of a slot, to which the faulty machine came at a moment, it took these steps itself so far, and its phase stands beside the good machine's
pub record StandsBeside (design : FlatDesign) (fault : StuckAt) (slot : FirstSlot) (place : Place) (at : Moment) (tried : List TriedStep) (apart : List RunApart) : Type 0 where
  pub so_far : OwnSoFar (good_machine design) (faulty_machine design fault) (phases (good_machine design) slot) at tried
  pub beside : IsPhaseBeside design fault place at apart

-- The laws
pub record OwnStepsGoOn : Type 0 where
  -- a slot begins
  pub begins : (design : FlatDesign) (plan : TestPlan) (fault : StuckAt) (slot : FirstSlot) (begins : State) (from until moment : ℕ) (phase : Phase) (later : List Phase) (pairs : List BlockPair)
      (notes : NotesKept) (kept : LockstepKept) (spare : ℕ) → phases (good_machine design) slot ≡ phase ∷ later →
      IsGoing design plan fault slot begins from until moment (first_place phase later) (first_moment begins) pairs notes kept spare →
      StandsBeside design fault slot (first_place phase later) (first_moment begins) [] []
  -- a stretch to between runs, of which the tables tell that it leaves alone what is kept, is passed over
  pub passes : (design : FlatDesign) (plan : TestPlan) (fault : StuckAt) (slot : FirstSlot) (begins : State) (from until moment : ℕ) (place : Place) (own : Moment) (pairs other_pairs : List BlockPair)
      (notes : NotesKept) (kept : LockstepKept) (spare : ℕ) (tried : List TriedStep) (apart : List RunApart) (events more : List Event) →
      IsGoing design plan fault slot begins from until moment place own pairs notes kept spare → place.left ≡ events ++ more →
      IsBetweenRuns (good_machine design) place.phase.begins (place.passed ++ events) →
      TablesLeave design fault kept (window_events design plan from until) moment (moment + length events) →
      IsGoing design plan fault slot begins from until (moment + length events) (behind_events events more place) (after_events (faulty_machine design fault) events own) other_pairs notes kept spare →
      StandsBeside design fault slot place own tried apart →
      StandsBeside design fault slot (behind_events events more place) (after_events (faulty_machine design fault) events own) tried apart
  -- a turn begins the next phase
  pub turns : (design : FlatDesign) (plan : TestPlan) (fault : StuckAt) (slot : FirstSlot) (begins : State) (from until moment : ℕ) (place : Place) (own : Moment) (pairs : List BlockPair)
      (notes : NotesKept) (kept : LockstepKept) (spare : ℕ) (tried : List TriedStep) (apart : List RunApart) (next : Phase) (later : List Phase) (turn : TurnKind) → next.turn ≡ Some turn →
      IsGoing design plan fault slot begins from until moment (next_phase next later place) (after_turn turn own) pairs notes kept spare →
      StandsBeside design fault slot place own tried apart → StandsBeside design fault slot (next_phase next later place) (after_turn turn own) tried []
