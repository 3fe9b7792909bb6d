-- Back to the good machine's state before a block (blocks and slots by IEEE 1364-2001, clause 5).
use Rattle.std.specs.Prelude.{◌≡◌, ℕ, ◌<◌, false, List, length, Some, None}
use Rattle.four_value.specs.Values.{LogicValue}
use Rattle.v_design.specs.Assignments.{value_at}
use Rattle.v_design.specs.PlainDesigns.{design_of}
use Rattle.v_design.specs.States.{State, node_at, process_at}
use Rattle.process_code.specs.declared.code.Code.{Code}
use Rattle.run_ends.specs.RunEnds.{AreCodesOf}
use Rattle.copy_laws.specs.Differences.{own_of}
use Rattle.copy_laws.specs.Moves.{Parts}
use Rattle.block_compare.specs.block_events.declared.runner.Runner.{Runner}
use Rattle.block_compare.specs.block_events.Runners.{machine_of, state_of}
use Rattle.block_told.specs.declared.told.BlockTold.{BlockTold}
use Rattle.block_compare.specs.lockstep_copy.declared.own.LockstepCopy.{LockstepCopy}
use Rattle.block_compare.specs.lockstep_exchange.Exchange.{AreWide}
use Rattle.moments_stand.specs.Standing.{AllMayStand}
use Rattle.block_compare.specs.moment_shown.declared.shown.ShownBlock.{ShownBlock}
use Rattle.block_compare.specs.moment_shown.declared.shown.ShownMoment.{ShownMoment}
use Rattle.block_compare.specs.moment_shown.Shown.{Shows}
use Rattle.block_compare.specs.Comparing.{parts_both}

-- a state behind a block of the faulty machine is the good one before it, but for the values that are kept behind it, and but for some parts
pub record IsBackBut (parts : Parts) (own : LockstepCopy) (good now : State) : Type 0 where
  pub value_count : length now.values ≡ length good.values
  pub node_count : length now.nodes ≡ length good.nodes
  pub process_count : length now.processes ≡ length good.processes
  pub time_is : now.time ≡ good.time
  pub nodes : (number : ℕ) → node_at now number ≡ node_at good number
  pub values : (object : ℕ) → parts.objects object ≡ false → own_of own.copy.values object ≡ None → value_at now.values object ≡ value_at good.values object
  pub processes : (process : ℕ) → parts.processes process ≡ false → process_at now process ≡ process_at good process
  pub objects_there : (object : ℕ) (value : LogicValue) → own_of own.copy.values object ≡ Some value → object < length good.values

-- a runner that is the faulty machine behind its block may become the good machine before it, whose state is shown
pub record MayPutBack (runner : Runner) (before : ShownMoment) (block : ShownBlock) (told : BlockTold) (own : LockstepCopy) : Type 0 where
  pub design_is : design_of before.design.now ≡ (machine_of runner).design
  pub codes : List Code
  pub codes_are : AreCodesOf (machine_of runner).design codes
  pub good : State
  pub shown : Shows before good
  pub wide : AreWide (machine_of runner).design good
  pub may : AllMayStand (machine_of runner).design good
  pub back : IsBackBut (parts_both block told) own good (state_of runner)
