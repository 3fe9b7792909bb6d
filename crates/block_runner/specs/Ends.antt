-- How the run of a block ended (blocks: stretches of the first order of IEEE 1364-2001, clause 5, from one moment between runs to the next).
use Rattle.std.specs.Prelude.{◌≡◌, ◌⊎◌, ◌≤◌, ◌<◌, ◌-◌, ◌^◌, ℕ, List, [], ◌++◌, drop, length, map, sum_by}
use Rattle.vf_base.specs.Base.{process_number}
use Rattle.vf_base.specs.declared.ids.ProcId.{ProcId}
use Rattle.v_design.specs.Designs.{Machine}
use Rattle.v_design.specs.OwnSteps.{ProcessRun, runs_of, steps_in}
use Rattle.v_design.specs.States.{State, Event}
use Rattle.v_design.specs.Runs.{happened}
use Rattle.machine_laws.specs.SlotLoop.{IsIdle, steps_of}
use Rattle.machine_events.specs.Steps.{raised_by}
use Rattle.copy_laws.specs.Beside.{AreFirst}
use Rattle.block_told.specs.declared.told.BlockTold.{BlockTold}
use Rattle.block_told.specs.Tells.{TellsBlock}
use Rattle.block_told.specs.Blocks.{AreBlock}
use Rattle.block_events.specs.declared.runner.Runner.{Runner}
use Rattle.block_events.specs.Runners.{machine_of, state_of, IsWhole}
use Rattle.run_numbers.specs.Numbers.{times_of}
use Rattle.good_runs.specs.Kept.{Keeps}
use Rattle.good_runs.specs.declared.tried.TriedStep.{TriedStep}
use Rattle.block_runner.specs.Beside.{TellsBeside}
use Rattle.block_runner.specs.declared.goods.GoodPhase.{GoodPhase}
use Rattle.block_runner.specs.declared.blocks.BlockEnd.{BlockEnd}
use Rattle.block_runner.specs.declared.blocks.BlockEnd.TheVariants.{Idle, Ran, GivenUp}

-- no event was possible, or the events are a block, or more than so many process and lane steps were taken, or as many events as are counted
abbrev pub EndsSo : Machine → State → ℕ → List Event → BlockEnd → Type 0
EndsSo machine state most events Idle = (events ≡ []) × IsIdle state
EndsSo machine state most events Ran = AreBlock machine state events
EndsSo machine state most events GivenUp = (most < sum_by steps_of events) ⊎ (2 ^ 64 - 1 ≤ length events)

-- from a state of a machine a runner has taken events of the first order, is in the state behind them, and they are told
pub record GoesOn (machine : Machine) (begins : State) (most : ℕ) (end : BlockEnd) (new : Runner) (told : BlockTold) : Type 0 where
  pub events : List Event
  pub in_order : AreFirst machine begins events
  pub whole : IsWhole new
  pub machine_is : machine_of new ≡ machine
  pub state_is : state_of new ≡ happened machine begins events
  pub tells : TellsBlock machine begins events told
  pub ends : EndsSo machine begins most events end

-- it has run a block so that a lane began: no process takes a step
pub record LaneRan (machine : Machine) (begins : State) (process most : ℕ) (end : BlockEnd) (new : Runner) (told : BlockTold) : Type 0 where
  pub goes : GoesOn machine begins most end new told
  pub no_steps : (other : ℕ) → steps_in machine other begins goes.events ≡ []

-- some steps more were tried, each of which ticked once
pub record TicksTried (old new : List TriedStep) (ticks_old ticks_new : ℕ) : Type 0 where
  pub more : new ≡ old ++ drop (length old) new
  pub ticks : ticks_new ≡ raised_by (length (drop (length old) new)) ticks_old

-- a runner has run a block so, beside the good machine's phase: some steps are those that it took itself, and at its end each run that ended in it is listed
pub record RanBeside (machine : Machine) (begins : State) (most : ℕ) (kept : GoodPhase) (end : BlockEnd) (new : Runner) (told : BlockTold) (ended : List ProcId) (more : List TriedStep) : Type 0 where
  pub goes : GoesOn machine begins most end new told
  pub keeps : (runs : ℕ → List ProcessRun) (numbers : ℕ → ℕ) → TellsBeside machine begins runs numbers kept → Keeps runs numbers machine kept.phase begins [] goes.events more
  pub ended_are : end ≡ Ran → (process : ℕ) → length (runs_of (steps_in machine process begins goes.events)) ≡ times_of process (map process_number ended)
