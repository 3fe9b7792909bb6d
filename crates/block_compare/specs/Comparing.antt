-- Blocks of both machines compared (blocks by IEEE 1364-2001, clause 5).
use Rattle.std.specs.Prelude.{◌≡◌, ℕ, ◌<◌, ◌||◌, true, length, map}
use Rattle.vf_base.specs.Base.{object_number, process_number}
use Rattle.vf_base.specs.Lists.{has}
use Rattle.v_design.specs.Designs.{FlatDesign, Machine}
use Rattle.v_design.specs.PlainDesigns.{design_of}
use Rattle.v_design.specs.States.{State, process_at}
use Rattle.process_code.specs.declared.code.Code.{Code}
use Rattle.run_ends.specs.RunEnds.{IsCodeAt}
use Rattle.copy_laws.specs.Moves.{Parts}
use Rattle.block_told.specs.declared.told.BlockTold.{BlockTold}
use Rattle.moment_shown.specs.lockstep_compare.Compared.{IsKeptBehind}
use Rattle.moment_shown.specs.lockstep_copy.Kept.{kept_by}
use Rattle.moment_shown.specs.lockstep_copy.declared.own.LockstepCopy.{LockstepCopy}
use Rattle.moment_shown.specs.lockstep_exchange.Exchange.{AreWide}
use Rattle.lockstep_room.specs.declared.counts.Counts.{Counts}
use Rattle.lockstep_room.specs.Rooms.{AreCounts}
use Rattle.moment_shown.specs.lockstep_exchange.Putting.{lane_numbers}
use Rattle.moment_shown.specs.declared.shown.ShownBlock.{ShownBlock}
use Rattle.moment_shown.specs.declared.shown.ShownMoment.{ShownMoment}
use Rattle.moment_shown.specs.Shown.{Shows}

-- what the good machine's block and the faulty one's tell to have changed
abbrev pub parts_both : ShownBlock → BlockTold → Parts
parts_both block told = record {
  objects = λ object. has (map object_number block.changed.now) object || has (map object_number told.changed.items) object;
  nodes = λ number. true;
  processes = λ process. has (map process_number block.acted.now) process || has (lane_numbers block.lane) process;
}

-- both blocks step and wake the same processes, and step the same lane
pub record ActsAlike (block : ShownBlock) (told : BlockTold) : Type 0 where
  pub acted : (process : ℕ) →
      (has (map process_number told.stepped.items) process || has (map process_number told.ended.items) process) ≡ has (map process_number block.acted.now) process
  pub lanes : (process : ℕ) → has (lane_numbers told.lane) process ≡ has (lane_numbers block.lane) process

-- a process does the same in both states
abbrev pub DoesSame : State → State → ℕ → Type 0
DoesSame good faulty process = (process_at faulty process).activity ≡ (process_at good process).activity

-- the blocks act alike, the processes do the same behind them, and the objects that they wrote are there
pub record GoAlike (design : FlatDesign) (good faulty : State) (block : ShownBlock) (told : BlockTold) : Type 0 where
  pub acts : ActsAlike block told
  pub same : (process : ℕ) → (parts_both block told).processes process ≡ true → DoesSame good faulty process
  pub goods : (object : ℕ) → has (map object_number block.changed.now) object ≡ true → object < length design.objects
  pub owns : (object : ℕ) → has (map object_number told.changed.items) object ≡ true → object < length design.objects

-- each process of a design has a code
abbrev pub HaveCodes : FlatDesign → Type 0
HaveCodes design = (process : ℕ) → process < length design.processes → (code : Code) × IsCodeAt design process code

-- the good machine's state that is shown is of a design, with each value as wide as its object
pub record IsShownOf (design : FlatDesign) (good : ShownMoment) : Type 0 where
  pub design_is : design_of good.design.now ≡ design
  pub codes : HaveCodes design
  pub state : State
  pub shown : Shows good state
  pub value_count : length state.values ≡ length design.objects
  pub process_count : length state.processes ≡ length design.processes
  pub wide : AreWide design state

-- the states may be compared: both are of one design, and the processes that the good machine's block tells are there
pub record MayCompare (machine : Machine) (good : ShownMoment) (block : ShownBlock) (counts : Counts) : Type 0 where
  pub beside : IsShownOf machine.design good
  pub counts_are : AreCounts machine.design counts
  pub acted : (process : ℕ) → has (map process_number block.acted.now) process ≡ true → process < length machine.design.processes
  pub lane : (process : ℕ) → has (lane_numbers block.lane) process ≡ true → process < length machine.design.processes

-- both blocks act alike; and what is kept behind them is told by comparing
pub record Compares (good faulty : State) (block : ShownBlock) (told : BlockTold) (old new : LockstepCopy) : Type 0 where
  pub acts : ActsAlike block told
  pub kept : IsKeptBehind (parts_both block told) good faulty (kept_by old) (kept_by new)
