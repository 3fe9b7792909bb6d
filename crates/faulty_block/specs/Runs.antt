-- A block that a faulty machine in lockstep runs by itself (blocks and slots by IEEE 1364-2001, clause 5).
use Rattle.std.specs.Prelude.{◌≡◌, ℕ, ◌+◌, ◌≤◌, ◌^◌, Bool, true, false, List, [], length, map, Some, sum_by}
use Rattle.vf_base.specs.Base.{process_number}
use Rattle.v_design.specs.Designs.{Machine}
use Rattle.v_design.specs.States.{State, Event, process_at}
use Rattle.v_design.specs.OwnSteps.{ProcessRun, runs_of, steps_in}
use Rattle.v_design.specs.Runs.{happened}
use Rattle.v_design.specs.WellFormed.{KeepsRules}
use Rattle.machine_laws.specs.SlotLoop.{NoNodeWorks, first_lane, steps_of}
use Rattle.copy_laws.specs.Beside.{AreFirst}
use Rattle.race_laws.specs.Writes.{WritesAreOf}
use Rattle.run_numbers.specs.Numbers.{times_of}
use Rattle.good_runs.specs.Kept.{Keeps}
use Rattle.good_runs.specs.declared.tried.TriedStep.{TriedStep}
use Rattle.block_compare.specs.block_events.declared.runner.Runner.{Runner}
use Rattle.block_compare.specs.block_events.Runners.{IsWhole, machine_of, state_of}
use Rattle.block_told.specs.declared.told.BlockTold.{BlockTold}
use Rattle.block_told.specs.Blocks.{AreBlock}
use Rattle.block_told.specs.Tells.{TellsBlock, parts_told}
use Rattle.block_compare.specs.lockstep_copy.declared.own.LockstepCopy.{LockstepCopy}
use Rattle.block_compare.specs.lockstep_exchange.Exchange.{MayPutIn, acts_among}
use Rattle.block_compare.specs.moment_shown.declared.shown.ShownBlock.{ShownBlock}

-- the processes that act in the good machine's block that is shown
abbrev pub acts_in : ShownBlock → ℕ → Bool
acts_in block = acts_among (map process_number block.acted.now) block.lane

-- a runner may become a faulty machine with what is kept, and run a block of it beside one of the good machine, in which some processes act: the first lane, if there is one, is of one of these
pub record MayRun (acts : ℕ → Bool) (own : LockstepCopy) (runner : Runner) : Type 0 where
  pub rules : KeepsRules (machine_of runner).design
  pub put : MayPutIn (machine_of runner).design own (state_of runner)
  pub rests : NoNodeWorks put.faulty
  pub writes : WritesAreOf (machine_of runner).design put.faulty
  pub good_writes : WritesAreOf (machine_of runner).design (state_of runner)
  pub time : put.faulty.time ≤ 2 ^ 63
  pub lane : (process : ℕ) → first_lane (state_of runner) ≡ Some process → acts process ≡ true

-- a runner is a machine, which took a block of so many process and lane steps from a state, and is told; it is in the state behind the block, but for what those processes have yet to write that
-- don't act: these are the good ones where the block left them alone; beside good runs of a phase, of which so many of each process ended before, such steps are kept, and these processes ended
-- their runs, each once for each run
pub record RanBlock (machine : Machine) (acts : ℕ → Bool) (begins good : State) (goods : ℕ → List ProcessRun) (numbers : ℕ → ℕ) (phase taken : ℕ) (runner : Runner) (told : BlockTold)
    (ended : List ℕ) (tried : List TriedStep) : Type 0 where
  pub events : List Event
  pub block : AreBlock machine begins events
  pub whole : IsWhole runner
  pub machine_is : machine_of runner ≡ machine
  pub rest : state_of runner ≡ record (happened machine begins events) { processes = (state_of runner).processes }
  pub count : length (state_of runner).processes ≡ length (happened machine begins events).processes
  pub processes : (process : ℕ) → acts process ≡ true → process_at (state_of runner) process ≡ process_at (happened machine begins events) process
  pub others : (process : ℕ) → acts process ≡ false → (parts_told told).processes process ≡ false → process_at (state_of runner) process ≡ process_at good process
  pub tells : TellsBlock machine begins events told
  pub steps_are : told.steps ≡ taken
  pub keeps : Keeps goods numbers machine phase begins [] events tried
  pub ended_are : (process : ℕ) → length (runs_of (steps_in machine process begins events)) ≡ times_of process ended

-- from a state a machine takes events of the first order, which take one process or lane step at most beyond so many; beside good runs such steps of them are kept
pub record StepsWithin (machine : Machine) (begins : State) (goods : ℕ → List ProcessRun) (numbers : ℕ → ℕ) (phase most : ℕ) (tried : List TriedStep) : Type 0 where
  pub events : List Event
  pub in_order : AreFirst machine begins events
  pub few : sum_by steps_of events ≤ most + 1
  pub keeps : Keeps goods numbers machine phase begins [] events tried
