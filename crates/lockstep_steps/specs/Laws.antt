-- A slot in lockstep from step to step (slots, phases and blocks by IEEE 1364-2001, clause 5).
use Rattle.std.specs.Prelude.{◌≡◌, ℕ, suc, ◌+◌, ◌<◌, ◌≤◌, List, [], ◌∷◌, ◌++◌, length, Some, None, slice_get, sum_by}
use Rattle.v_design.specs.Designs.{FlatDesign, StuckAt, TestPlan, good_machine, faulty_machine}
use Rattle.v_design.specs.States.{State, Event, TurnKind}
use Rattle.v_design.specs.Runs.{FirstSlot, most_steps}
use Rattle.v_design.specs.Grades.{Phase, Fine, phases, slot_outcome}
use Rattle.v_design.specs.PhaseLogs.{phase_race}
use Rattle.machine_laws.specs.SlotLoop.{Moment, first_moment, after_events, after_turn, steps_of}
use Rattle.copy_laws.specs.Differences.{Differences}
use Rattle.copy_laws.specs.Moves.{Parts}
use Rattle.copy_laws.specs.Windows.{good_slots}
use Rattle.block_filter.specs.Blocks.{BlockPair, Alike}
use Rattle.block_filter.specs.Likes.{AreWider}
use Rattle.block_told.specs.Blocks.{AreBlock}
use Rattle.phase_blocks.specs.Blocks.{IsBetweenRuns, IsWholeBlock}
use Rattle.trace_window.specs.Moments.{window_events}
use Rattle.wait_index.specs.Waits.{WaitsAreOfBodies}
use Rattle.own_told.specs.Told.{MayCauseAlike}
use Rattle.lockstep_notes.specs.lockstep_slots.Kept.{LockstepKept, kept_of, turned_kept, AreJustKept}
use Rattle.lockstep_notes.specs.lockstep_slots.Pairs.{unlike_pair, LeavesNoConflict}
use Rattle.lockstep_notes.specs.lockstep_slots.Places.{Place, state_there, steps_left, first_place, behind_events, next_phase}
use Rattle.lockstep_notes.specs.lockstep_slots.Standing.{BlocksDiffer}
use Rattle.lockstep_copies.specs.Copies.{IsCopyInLockstep, own_begins}
use Rattle.lockstep_notes.specs.window_places.Windows.{TablesLeave}
use Rattle.race_notes.specs.Notes.{NotesKept, HasNoNotes}
use Rattle.lockstep_notes.specs.Beside.{BeginAlike, TakesIn}
use Rattle.lockstep_notes.specs.Notes.{NotesTell, marks_of}
use Rattle.lockstep_steps.specs.Going.{IsGoing}

-- the turn that leads to the next phase of a slot, behind which both machines go on
pub record GoesOverTurn (design : FlatDesign) (plan : TestPlan) (fault : StuckAt) (slot : FirstSlot) (begins : State) (from until moment : ℕ) (place : Place) (own : Moment) (notes : NotesKept)
    (kept : LockstepKept) (spare : ℕ) (next : Phase) (later : List Phase) : Type 0 where
  pub turn : TurnKind
  pub turn_is : next.turn ≡ Some turn
  pub going : IsGoing design plan fault slot begins from until moment (next_phase next later place) (after_turn turn own) [] notes (turned_kept slot.begins.time turn kept) spare

-- The laws

pub record StepsGoOn : Type 0 where
  -- a slot of a window begins, behind a copy in lockstep
  pub begins : (design : FlatDesign) (plan : TestPlan) (fault : StuckAt) (number time from until : ℕ) (d : Differences) (slot : FirstSlot) (phase : Phase) (later : List Phase)
      (notes : NotesKept) (spare : ℕ) → IsCopyInLockstep design plan fault number time d → slice_get (good_slots design plan) (suc number) ≡ Some slot →
      slot_outcome (good_machine design) slot ≡ Fine → phases (good_machine design) slot ≡ phase ∷ later → from ≤ suc number → suc number < until →
      HasNoNotes (length (window_events design plan from (suc number))) notes → steps_left (first_place phase later) + spare ≤ most_steps →
      IsGoing design plan fault slot (own_begins design plan fault time slot) from until (length (window_events design plan from (suc number))) (first_place phase later)
      (first_moment (own_begins design plan fault time slot)) [] notes (kept_of d) spare
  -- in which the faulty machine's processes wait on objects of their texts
  pub waits : (design : FlatDesign) (plan : TestPlan) (fault : StuckAt) (time : ℕ) (slot : FirstSlot) → WaitsAreOfBodies (faulty_machine design fault) (own_begins design plan fault time slot)
  -- events that end between runs, of which the tables tell that they leave alone what is kept, are passed over
  pub passes : (design : FlatDesign) (plan : TestPlan) (fault : StuckAt) (slot : FirstSlot) (begins : State) (from until moment : ℕ) (place : Place) (own : Moment) (pairs : List BlockPair)
      (notes : NotesKept) (kept : LockstepKept) (spare : ℕ) (events more : List Event) → IsGoing design plan fault slot begins from until moment place own pairs notes kept spare →
      place.left ≡ events ++ more → IsBetweenRuns (good_machine design) place.phase.begins (place.passed ++ events) →
      TablesLeave design fault kept (window_events design plan from until) moment (moment + length events) →
      IsGoing design plan fault slot begins from until (moment + length events) (behind_events events more place) (after_events (faulty_machine design fault) events own)
      (pairs ++ Alike events ∷ []) notes kept spare
  -- blocks of both machines begin with one event
  pub begin_alike : (design : FlatDesign) (plan : TestPlan) (fault : StuckAt) (slot : FirstSlot) (begins : State) (from until moment : ℕ) (place : Place) (own : Moment) (pairs : List BlockPair)
      (notes : NotesKept) (kept : LockstepKept) (spare : ℕ) (ones others : List Event) → IsGoing design plan fault slot begins from until moment place own pairs notes kept spare →
      IsWholeBlock (good_machine design) (state_there (good_machine design) place) ones → AreBlock (faulty_machine design fault) own.state others → BeginAlike ones others
  -- each machine takes a block of its own; they are compared and noted, and the steps of the faulty machine's were to spare
  pub runs : (design : FlatDesign) (plan : TestPlan) (fault : StuckAt) (slot : FirstSlot) (begins : State) (from until moment : ℕ) (place : Place) (own : Moment) (pairs : List BlockPair)
      (notes later : NotesKept) (old new : LockstepKept) (spare less : ℕ) (parts : Parts) (ones more others : List Event) →
      IsGoing design plan fault slot begins from until moment place own pairs notes old spare → place.left ≡ ones ++ more →
      IsWholeBlock (good_machine design) (state_there (good_machine design) place) ones → AreBlock (faulty_machine design fault) own.state others →
      BlocksDiffer design fault parts (state_there (good_machine design) place) own.state ones others old new → AreWider (marks_of design notes) (marks_of design later) →
      TakesIn design fault (marks_of design later) (state_there (good_machine design) place) own.state ones others →
      MayCauseAlike design fault (state_there (good_machine design) place) own.state ones others →
      NotesTell design plan fault from until (moment + length ones) (behind_events ones more place) (after_events (faulty_machine design fault) others own)
      (pairs ++ unlike_pair ones others ∷ []) later →
      sum_by steps_of others + less ≡ spare →
      IsGoing design plan fault slot begins from until (moment + length ones) (behind_events ones more place) (after_events (faulty_machine design fault) others own)
      (pairs ++ unlike_pair ones others ∷ []) later new less
  -- where a phase is through it has no race, if the marks leave no conflict
  pub free : (design : FlatDesign) (plan : TestPlan) (fault : StuckAt) (slot : FirstSlot) (begins : State) (from until moment : ℕ) (place : Place) (own : Moment) (pairs : List BlockPair)
      (notes : NotesKept) (kept : LockstepKept) (spare : ℕ) → IsGoing design plan fault slot begins from until moment place own pairs notes kept spare → place.left ≡ [] →
      LeavesNoConflict design fault (marks_of design notes) own.phase_begins pairs → phase_race (faulty_machine design fault) own.phase_begins own.events ≡ None
  -- then a turn leads to the next phase, of which nothing is noted yet
  pub turns : (design : FlatDesign) (plan : TestPlan) (fault : StuckAt) (slot : FirstSlot) (begins : State) (from until moment : ℕ) (place : Place) (own : Moment) (pairs : List BlockPair)
      (notes cleared : NotesKept) (kept : LockstepKept) (spare : ℕ) (next : Phase) (later : List Phase) →
      IsGoing design plan fault slot begins from until moment place own pairs notes kept spare → place.left ≡ [] → place.later ≡ next ∷ later →
      phase_race (faulty_machine design fault) own.phase_begins own.events ≡ None → HasNoNotes moment cleared →
      GoesOverTurn design plan fault slot begins from until moment place own cleared kept spare next later
  -- or the slot ends, and what is kept is the copy behind it
  pub ends : (design : FlatDesign) (plan : TestPlan) (fault : StuckAt) (number time from until moment : ℕ) (d new : Differences) (slot : FirstSlot) (place : Place) (own : Moment)
      (pairs : List BlockPair) (notes : NotesKept) (kept : LockstepKept) (spare : ℕ) → IsCopyInLockstep design plan fault number time d →
      slice_get (good_slots design plan) (suc number) ≡ Some slot → slot_outcome (good_machine design) slot ≡ Fine →
      IsGoing design plan fault slot (own_begins design plan fault time slot) from until moment place own pairs notes kept spare → place.left ≡ [] → place.later ≡ [] →
      phase_race (faulty_machine design fault) own.phase_begins own.events ≡ None → AreJustKept kept new → IsCopyInLockstep design plan fault (suc number) slot.begins.time new
