-- A turn within a slot, of the room and of the faults beside it (turns by IEEE 1364-2001, clause 5.3; nonblocking updates by clause 9.2.2).
use Rattle.std.specs.Prelude.{◌≡◌, ℕ, [], ◌∷◌, List, true}
use Rattle.v_design.specs.Designs.{FlatDesign, TestPlan, good_machine}
use Rattle.v_design.specs.Grades.{Phase}
use Rattle.v_design.specs.Runs.{FirstSlot, turned_by}
use Rattle.v_design.specs.States.{turn_of}
use Rattle.phase_faults.specs.block_skip.Blocks.{AreProcesses}
use Rattle.phase_faults.specs.block_events.declared.runner.Runner.{Runner}
use Rattle.phase_faults.specs.block_events.Runners.{IsWhole, machine_of, state_of}
use Rattle.phase_faults.specs.lockstep_slots.Places.{IsFineSlot, IsPlaceOf, Place}
use Rattle.phase_faults.specs.moment_laws.Passing.{TakesTurn}
use Rattle.phase_faults.specs.moment_laws.Shown.{MomentKept}
use Rattle.race_notes.specs.Notes.{HasNoNotes}
use Rattle.phase_faults.specs.slot_laws.Slots.{IsRoomIn, TurnsAll}
use Rattle.phase_faults.specs.declared.beside.FaultBeside.{FaultBeside}

-- a room is at the end of a phase, behind which another one of the slot comes
pub record RoomMayTurn (design : FlatDesign) (plan : TestPlan) (from until : ℕ) (runner : Runner) (before behind : MomentKept) : Type 0 where
  pub number : ℕ
  pub slot : FirstSlot
  pub place : Place
  pub next : Phase
  pub later : List Phase
  pub room : IsRoomIn design plan from until number place runner before behind
  pub fine : IsFineSlot (good_machine design) slot
  pub place_is : IsPlaceOf (good_machine design) slot place
  pub through : place.left ≡ []
  pub later_is : place.later ≡ next ∷ later

-- its runner and both moments took the turn to that phase
pub record RoomTurns (design : FlatDesign) (plan : TestPlan) (place : Place) (next : Phase) (later : List Phase) (runner : Runner) (before behind : MomentKept) (new_runner : Runner)
    (new_before new_behind : MomentKept) : Type 0 where
  pub whole : IsWhole new_runner
  pub machine_is : machine_of new_runner ≡ machine_of runner
  pub state_is : state_of new_runner ≡ turned_by (turn_of (state_of runner)) (state_of runner)
  pub before_turns : TakesTurn design plan place next later before new_before
  pub behind_turns : TakesTurn design plan place next later behind new_behind

-- of a fault that still goes updates are kept of processes that are there alone
abbrev pub MayTurnBeside : FlatDesign → FaultBeside → Type 0
MayTurnBeside design each = each.goes ≡ true → AreProcesses design each.one.own.copy.updates

-- a fault that still goes took it at a time, beside a moment of the good machine behind it: nothing is noted of it then, and no run is apart in the phase that begins
pub record TurnsBeside (now : ℕ) (good : MomentKept) (old new : FaultBeside) : Type 0 where
  pub fault : new.fault ≡ old.fault
  pub goes : new.goes ≡ old.goes
  pub spare : new.one.spare ≡ old.one.spare
  pub tried : new.one.tried.items ≡ old.one.tried.items
  pub turns : new.goes ≡ true → TurnsAll now good old.one.own new.one.own
  pub cleared : new.goes ≡ true → HasNoNotes good.moment new.one.notes
  pub together : new.goes ≡ true → new.one.apart.items ≡ []
