-- What the good machine's moments show to a block of the faulty machine's own (blocks by IEEE 1364-2001, clause 5).
use Rattle.std.specs.Prelude.{◌≡◌, ℕ, ◌<◌, ◌||◌, Bool, true, length, map}
use Rattle.vf_base.specs.Base.{object_number, process_number}
use Rattle.vf_base.specs.Lists.{has}
use Rattle.v_design.specs.Designs.{FlatDesign, Machine}
use Rattle.v_design.specs.States.{State}
use Rattle.copy_laws.specs.Moves.{Parts}
use Rattle.faulty_block.specs.block_events.declared.runner.Runner.{Runner}
use Rattle.faulty_block.specs.block_events.Runners.{machine_of, state_of}
use Rattle.block_told.specs.declared.told.BlockTold.{BlockTold}
use Rattle.block_told.specs.Tells as told_block
use Rattle.good_moment.specs.moment_laws.Shown.{MomentKept, ShowsState, is_lane}
use Rattle.faulty_block.specs.lockstep_compare.Compared.{IsKeptBehind}
use Rattle.faulty_block.specs.lockstep_copy.Kept.{kept_by}
use Rattle.faulty_block.specs.lockstep_copy.declared.own.LockstepCopy.{LockstepCopy}
use Rattle.faulty_block.specs.lockstep_exchange.Exchange.{AreWide}
use Rattle.moments_stand.specs.Standing.{AllMayStand}
use Rattle.faulty_block.specs.Back.{IsBackBut}

-- the processes that act in the good machine's block
abbrev pub acts_beside : MomentKept → ℕ → Bool
acts_beside behind process = has behind.acted process || is_lane behind.lane process

-- what the good machine's block and the faulty one's tell to have changed
abbrev pub parts_beside : MomentKept → BlockTold → Parts
parts_beside behind told = record {
  objects = λ object. has behind.changed object || has (map object_number told.changed.items) object;
  nodes = λ number. true;
  processes = acts_beside behind;
}

-- both blocks step and wake the same processes, and step the same lane
pub record ActsBeside (behind : MomentKept) (told : BlockTold) : Type 0 where
  pub acted : (process : ℕ) → (has (map process_number told.stepped.items) process || has (map process_number told.ended.items) process) ≡ has behind.acted process
  pub lanes : (process : ℕ) → told_block.is_lane told.lane process ≡ is_lane behind.lane process

-- the states may be compared: both are of a design, each value of the good one is as wide as its object, and the processes that its block tells are there
pub record MayCompareBeside (design : FlatDesign) (machine : Machine) (behind : MomentKept) : Type 0 where
  pub design_is : machine.design ≡ design
  pub good : State
  pub shown : ShowsState design good behind
  pub wide : AreWide design good
  pub acted : (process : ℕ) → has behind.acted process ≡ true → process < length design.processes
  pub lane : (process : ℕ) → is_lane behind.lane process ≡ true → process < length design.processes

-- both blocks act alike; and what is kept behind them is told by comparing
pub record ComparesBeside (good faulty : State) (behind : MomentKept) (told : BlockTold) (old new : LockstepCopy) : Type 0 where
  pub acts : ActsBeside behind told
  pub kept : IsKeptBehind (parts_beside behind told) good faulty (kept_by old) (kept_by new)

-- a runner that is the faulty machine behind its block may become the good machine before it
pub record MayPutBackTo (design : FlatDesign) (runner : Runner) (before behind : MomentKept) (told : BlockTold) (own : LockstepCopy) : Type 0 where
  pub design_is : (machine_of runner).design ≡ design
  pub good : State
  pub shown : ShowsState design good before
  pub wide : AreWide design good
  pub may : AllMayStand design good
  pub back : IsBackBut (parts_beside behind told) own good (state_of runner)
