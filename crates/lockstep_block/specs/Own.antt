-- A block of the faulty machine's own (blocks and slots by IEEE 1364-2001, clause 5).
use Rattle.std.specs.Prelude.{◌≡◌, ℕ, ◌≤◌, ◌^◌, List}
use Rattle.v_design.specs.Designs.{FlatDesign, StuckAt, TestPlan, faulty_machine}
use Rattle.v_design.specs.States.{State, Event}
use Rattle.v_design.specs.Runs.{FirstSlot}
use Rattle.faulty_block.specs.block_events.declared.runner.Runner.{Runner}
use Rattle.faulty_block.specs.block_events.Runners.{IsWhole, machine_of, state_of}
use Rattle.block_told.specs.declared.told.BlockTold.{BlockTold}
use Rattle.good_moment.specs.moment_laws.Places.{IsInWindow}
use Rattle.good_moment.specs.moment_laws.Shown.{MomentKept}
use Rattle.faulty_block.specs.lockstep_copy.declared.own.LockstepCopy.{LockstepCopy}
use Rattle.faulty_block.specs.lockstep_room.declared.counts.Counts.{Counts}
use Rattle.faulty_block.specs.lockstep_room.Rooms.{AreCounts}
use Rattle.lockstep_steps.specs.lockstep_slots.Places.{Place, behind_events}
use Rattle.race_notes.specs.Notes.{NotesKept}
use Rattle.run_numbers.specs.declared.numbers.RunApart.{RunApart}
use Rattle.good_runs.specs.declared.tried.TriedStep.{TriedStep}
use Rattle.lockstep_block.specs.Beside.{MayPutBackTo}
use Rattle.lockstep_block.specs.Blocks.{FaultGoes}
use Rattle.lockstep_block.specs.Rooms.{IsBesideBlock}

-- in a slot a fault goes in lockstep to a place, at which a room stands beside the good machine's next block
pub record MayRunOwn (design : FlatDesign) (plan : TestPlan) (fault : StuckAt) (from until : ℕ) (runner : Runner) (before behind : MomentKept) (counts : Counts) (notes : NotesKept)
    (own : LockstepCopy) (spare : ℕ) (tried : List TriedStep) (apart : List RunApart) : Type 0 where
  pub slot : FirstSlot
  pub begins : State
  pub place : Place
  pub block : List Event
  pub rest : List Event
  pub counts_are : AreCounts design counts
  pub within : IsInWindow from until before
  pub beside : IsBesideBlock design plan place block rest runner before behind
  pub goes : FaultGoes design plan fault slot begins from until before.moment place notes own spare tried apart
  pub early : slot.begins.time ≤ 2 ^ 63

-- the moments of a room stay, and its runner is whole, and the machine that it was
pub record RoomStays (before behind : MomentKept) (counts : Counts) (runner : Runner) (before_new behind_new : MomentKept) (counts_new : Counts) (runner_new : Runner) : Type 0 where
  pub before_is : before_new ≡ before
  pub behind_is : behind_new ≡ behind
  pub counts_is : counts_new ≡ counts
  pub whole : IsWhole runner_new
  pub machine_is : machine_of runner_new ≡ machine_of runner

-- the moments of a room stay, and its runner is whole, and the faulty machine of its design
pub record RoomTakes (fault : StuckAt) (before behind : MomentKept) (counts : Counts) (runner : Runner) (before_new behind_new : MomentKept) (counts_new : Counts) (runner_new : Runner) : Type 0 where
  pub before_is : before_new ≡ before
  pub behind_is : behind_new ≡ behind
  pub counts_is : counts_new ≡ counts
  pub whole : IsWhole runner_new
  pub machine_is : machine_of runner_new ≡ faulty_machine (machine_of runner).design fault

-- a fault took its block: it goes in lockstep behind the blocks of both machines, and its runner may become the good machine in the state before them
pub record TookOwn (design : FlatDesign) (plan : TestPlan) (fault : StuckAt) (from until : ℕ) (runner : Runner) (before behind : MomentKept) (counts : Counts) (notes : NotesKept)
    (own : LockstepCopy) (spare : ℕ) (tried : List TriedStep) (apart : List RunApart) (of : MayRunOwn design plan fault from until runner before behind counts notes own spare tried apart)
    (ran : Runner) (before_new behind_new : MomentKept) (told : BlockTold) (later : NotesKept) (new : LockstepCopy) (less : ℕ) (tried_new : List TriedStep) (apart_new : List RunApart) : Type 0 where
  pub goes : FaultGoes design plan fault of.slot of.begins from until behind.moment (behind_events of.block of.rest of.place) later new less tried_new apart_new
  pub back : MayPutBackTo design ran before_new behind_new told new
  pub good_is : back.good ≡ state_of runner
