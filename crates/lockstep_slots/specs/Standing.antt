-- A slot of both machines in lockstep, from its beginning to its end: stretches that are passed over, blocks of which each machine takes its own, and turns (slots and phases by IEEE 1364-2001,
-- clause 5).
use Rattle.std.specs.Prelude.{◌≡◌, ◌+◌, ◌≤◌, ℕ, true, false, List, [], ◌∷◌, ◌++◌, length, Some, None, sum_by}
use Rattle.vf_base.specs.Lists.{AllHold}
use Rattle.v_design.specs.Designs.{FlatDesign, StuckAt, good_machine, faulty_machine}
use Rattle.v_design.specs.Assignments.{value_at}
use Rattle.v_design.specs.States.{State, Event, TurnKind, process_at, found_or}
use Rattle.v_design.specs.Accesses.{held_accesses}
use Rattle.v_design.specs.PhaseLogs.{phase_race}
use Rattle.v_design.specs.Runs.{FirstSlot, happened, most_steps, slot_end}
use Rattle.v_design.specs.Grades.{Phase, Fine, phases, slot_outcome}
use Rattle.v_design.specs.Laws.{BeginsPhase}
use Rattle.machine_laws.specs.SlotLoop.{Moment, IsIdle, slot_from, steps_of, first_moment, after_events, after_turn}
use Rattle.copy_laws.specs.Moves.{Parts, ChangesOnly}
use Rattle.block_filter.specs.Likes.{Marks, AreWider}
use Rattle.block_filter.specs.Blocks.{BlockPair, Alike, good_phase, faulty_phase, AreBlocks}
use Rattle.phase_blocks.specs.Blocks.{IsBetweenRuns, IsWholeBlock}
use Rattle.lockstep_laws.specs.Lockstep.{due_times, AreInLockstep}
use Rattle.lockstep_laws.specs.Blocks.{with_all_nodes}
use Rattle.lockstep_laws.specs.Slots.{KeepsNothingSame}
use Rattle.lockstep_laws.specs.Moments.{InLockstepAt}
use Rattle.trace_window.specs.Moments.{seen_from}
use Rattle.lockstep_index.specs.Alone.{LeavesValues}
use Rattle.lockstep_index.specs.Writes.{OwnWrites, with_writes, ActsElsewhere}
use Rattle.lockstep_slots.specs.Kept.{LockstepKept, kept_within, turned_kept}
use Rattle.lockstep_slots.specs.Pairs.{unlike_pair, TakeIn, LeavesNoConflict}
use Rattle.lockstep_slots.specs.Places.{Place, IsPlaceOf, IsFineSlot, state_there, moment_there, steps_left, first_place, behind_events, next_phase}

-- Both machines within a slot

-- at a place of a fine slot of the good machine, between two blocks, both machines are in lockstep with what is kept; the faulty machine's slot began in a state and came to a moment, in the present
-- phase by pairs of blocks, whose own ones the marks take in
pub record StandsInLockstep (design : FlatDesign) (fault : StuckAt) (slot : FirstSlot) (begins : State) (place : Place) (own : Moment) (pairs : List BlockPair) (marks : Marks)
    (kept : LockstepKept) : Type 0 where
  pub good_slot : IsFineSlot (good_machine design) slot
  pub place_is : IsPlaceOf (good_machine design) slot place
  pub own_begins : own.begins ≡ begins
  pub lockstep : InLockstepAt design fault (kept_within kept (state_there (good_machine design) place)) (moment_there (good_machine design) slot place) own
  pub between : IsBetweenRuns (good_machine design) place.phase.begins place.passed
  -- nothing that is kept is the good machine's
  pub nothing_same : KeepsNothingSame (kept_within kept (state_there (good_machine design) place)) (state_there (good_machine design) place)
  -- with the steps that are left of the good slot the faulty machine's steps stay within those of a slot
  pub room : own.steps + steps_left place ≤ most_steps
  -- what the present phase holds from its beginning, and its blocks so far
  pub held : held_accesses (good_machine design) place.phase.begins ≡ held_accesses (faulty_machine design fault) own.phase_begins
  pub good_pairs : good_phase pairs ≡ place.passed
  pub own_pairs : faulty_phase pairs ≡ own.events
  pub blocks : AreBlocks design fault marks place.phase.begins own.phase_begins pairs
  -- no phase that ended has a race
  pub clean : AllHold (λ (phase : Phase). phase_race (faulty_machine design fault) phase.begins phase.events ≡ None) own.ended

-- the states behind a block of each machine compared in some parts: what is kept stays elsewhere, and is there just what the faulty machine has otherwise, its updates due at the times of the good
-- ones, and as many in each lane; nothing of it is the good machine's
pub record AreCompared (parts : Parts) (good faulty : State) (old new : LockstepKept) : Type 0 where
  pub values_stay : (object : ℕ) → parts.objects object ≡ false → new.values object ≡ old.values object
  pub writes_stay : (process : ℕ) → parts.processes process ≡ false → new.writes process ≡ old.writes process
  pub values : (object : ℕ) → parts.objects object ≡ true → value_at faulty.values object ≡ found_or (value_at good.values object) (new.values object)
  pub processes : (process : ℕ) → parts.processes process ≡ true → process_at faulty process ≡ with_writes (new.writes process) (process_at good process)
  pub due : (process : ℕ) (own : OwnWrites) → parts.processes process ≡ true → new.writes process ≡ Some own → due_times own.later ≡ due_times (process_at good process).later
  pub lanes : (process : ℕ) (own : OwnWrites) → parts.processes process ≡ true → new.writes process ≡ Some own → length own.lane ≡ length (process_at good process).lane
  pub nothing_same : KeepsNothingSame (kept_within new good) good

-- a block of each machine changes some parts alone, and is compared there
pub record BlocksDiffer (design : FlatDesign) (fault : StuckAt) (parts : Parts) (good faulty : State) (ones others : List Event) (old new : LockstepKept) : Type 0 where
  pub good_changes : ChangesOnly (with_all_nodes parts) good (happened (good_machine design) good ones)
  pub own_changes : ChangesOnly (with_all_nodes parts) faulty (happened (faulty_machine design fault) faulty others)
  pub compared : AreCompared parts (happened (good_machine design) good ones) (happened (faulty_machine design fault) faulty others) old new

-- both slots ended in lockstep, the faulty machine's in a moment's state, and that slot is fine
pub record EndInLockstep (design : FlatDesign) (fault : StuckAt) (slot : FirstSlot) (begins : State) (own : Moment) (kept : LockstepKept) : Type 0 where
  pub own_end : slot_end (faulty_machine design fault) (slot_from (faulty_machine design fault) begins) ≡ own.state
  pub fine : slot_outcome (faulty_machine design fault) (slot_from (faulty_machine design fault) begins) ≡ Fine
  pub lockstep : AreInLockstep (kept_within kept (slot_end (good_machine design) slot)) (slot_end (good_machine design) slot) own.state
  pub idle : IsIdle (slot_end (good_machine design) slot)
  pub nothing_same : KeepsNothingSame (kept_within kept (slot_end (good_machine design) slot)) (slot_end (good_machine design) slot)

-- The laws

pub record SlotsInLockstep : Type 0 where
  -- both machines begin their slots in lockstep
  pub begins : (design : FlatDesign) (fault : StuckAt) (slot : FirstSlot) (own : State) (phase : Phase) (later : List Phase) (marks : Marks) (kept : LockstepKept) →
      IsFineSlot (good_machine design) slot → BeginsPhase (faulty_machine design fault) own → AreInLockstep (kept_within kept slot.begins) slot.begins own →
      KeepsNothingSame (kept_within kept slot.begins) slot.begins → phases (good_machine design) slot ≡ phase ∷ later →
      StandsInLockstep design fault slot own (first_place phase later) (first_moment own) [] marks kept
  -- whole blocks of the good machine that leave what is kept alone are passed over: the faulty machine takes them too
  pub passes : (design : FlatDesign) (fault : StuckAt) (slot : FirstSlot) (begins : State) (place : Place) (own : Moment) (pairs : List BlockPair) (marks : Marks) (kept : LockstepKept)
      (events more : List Event) → StandsInLockstep design fault slot begins place own pairs marks kept → place.left ≡ events ++ more →
      IsBetweenRuns (good_machine design) place.phase.begins (place.passed ++ events) →
      AllHold (LeavesValues design fault (kept_within kept (state_there (good_machine design) place))) (seen_from (good_machine design) (state_there (good_machine design) place) events) →
      AllHold (ActsElsewhere kept.writes) events →
      StandsInLockstep design fault slot begins (behind_events events more place) (after_events (faulty_machine design fault) events own) (pairs ++ Alike events ∷ []) marks kept
  -- more objects are marked
  pub widens : (design : FlatDesign) (fault : StuckAt) (slot : FirstSlot) (begins : State) (place : Place) (own : Moment) (pairs : List BlockPair) (marks wider : Marks) (kept : LockstepKept) →
      StandsInLockstep design fault slot begins place own pairs marks kept → AreWider marks wider → StandsInLockstep design fault slot begins place own pairs wider kept
  -- each machine takes a block of its own; they are compared, and the marks take them in
  pub runs : (design : FlatDesign) (fault : StuckAt) (slot : FirstSlot) (begins : State) (place : Place) (own : Moment) (pairs : List BlockPair) (marks : Marks) (old new : LockstepKept)
      (parts : Parts) (ones more others : List Event) → StandsInLockstep design fault slot begins place own pairs marks old → place.left ≡ ones ++ more →
      IsWholeBlock (good_machine design) (state_there (good_machine design) place) ones → IsWholeBlock (faulty_machine design fault) own.state others →
      BlocksDiffer design fault parts (state_there (good_machine design) place) own.state ones others old new →
      TakeIn design fault marks (state_there (good_machine design) place) own.state ones others →
      own.steps + sum_by steps_of others + steps_left (behind_events ones more place) ≤ most_steps →
      StandsInLockstep design fault slot begins (behind_events ones more place) (after_events (faulty_machine design fault) others own) (pairs ++ unlike_pair ones others ∷ []) marks new
  -- where the phase is through, it has no race if no accesses conflict that the marks leave open
  pub free : (design : FlatDesign) (fault : StuckAt) (slot : FirstSlot) (begins : State) (place : Place) (own : Moment) (pairs : List BlockPair) (marks : Marks) (kept : LockstepKept) →
      StandsInLockstep design fault slot begins place own pairs marks kept → place.left ≡ [] → LeavesNoConflict design fault marks own.phase_begins pairs →
      phase_race (faulty_machine design fault) own.phase_begins own.events ≡ None
  -- then a turn begins the next one in both machines
  pub turns : (design : FlatDesign) (fault : StuckAt) (slot : FirstSlot) (begins : State) (place : Place) (own : Moment) (pairs : List BlockPair) (marks other : Marks) (kept : LockstepKept)
      (next : Phase) (later : List Phase) (turn : TurnKind) → StandsInLockstep design fault slot begins place own pairs marks kept → place.left ≡ [] → place.later ≡ next ∷ later →
      next.turn ≡ Some turn → phase_race (faulty_machine design fault) own.phase_begins own.events ≡ None →
      StandsInLockstep design fault slot begins (next_phase next later place) (after_turn turn own) [] other (turned_kept slot.begins.time turn kept)
  -- or both slots end
  pub ends : (design : FlatDesign) (fault : StuckAt) (slot : FirstSlot) (begins : State) (place : Place) (own : Moment) (pairs : List BlockPair) (marks : Marks) (kept : LockstepKept) →
      StandsInLockstep design fault slot begins place own pairs marks kept → place.left ≡ [] → place.later ≡ [] →
      phase_race (faulty_machine design fault) own.phase_begins own.events ≡ None → EndInLockstep design fault slot begins own kept
