-- A block of a faulty machine beside the good machine's runs of the phase: which of its runs go as those (runs and steps by IEEE 1364-2001, clause 9; phases by clause 5).
use Rattle.std.specs.Prelude.{◌≡◌, ℕ, ◌+◌, ◌<◌, ◌≤◌, ◌^◌, Bool, true, false, List, [], ◌∷◌, ◌++◌, get_or, length, map, Option, Some, None, slice_get}
use Rattle.vf_base.specs.Base.{process_number}
use Rattle.vf_base.specs.Lists.{AllHold, has}
use Rattle.vf_base.specs.declared.ids.ProcId.{ProcId}
use Rattle.v_design.specs.Designs.{Machine}
use Rattle.v_design.specs.OwnSteps.{ProcessRun, runs_of, steps_in}
use Rattle.v_design.specs.States.{State, Event, source_at}
use Rattle.copy_laws.specs.OwnRuns.{is_going, last_goes_on}
use Rattle.copy_laws.specs.SharedRuns.{IsRunFrom}
use Rattle.copy_overlay.specs.Statuses.{AllCount}
use Rattle.run_numbers.specs.Numbers.{AreNumbers, times_of}
use Rattle.window_runs.specs.OfPhase.{TellsRuns}
use Rattle.known_steps.specs.Beside.{FollowsSoFar}
use Rattle.block_runner.specs.declared.goods.GoodPhase.{GoodPhase}
use Rattle.block_runner.specs.declared.rows.ProcessBeside.{ProcessBeside}
use Rattle.block_runner.specs.declared.rows.RunBeside.{RunBeside}

-- The good machine's phase

-- of a machine in a state: these are the good machine's runs of each process in the phase, at the present time, and so many of each ended before in this machine
pub record TellsBeside (machine : Machine) (state : State) (runs : ℕ → List ProcessRun) (numbers : ℕ → ℕ) (kept : GoodPhase) : Type 0 where
  pub tells : TellsRuns machine.design state.time runs kept.goods
  pub each : (process : ℕ) → process < length machine.design.processes → AllHold (IsRunFrom (source_at machine process) state.time) (runs process)
  pub are : AreNumbers numbers kept.numbers
  pub count : length kept.numbers.ran.now ≡ length machine.design.processes

-- there are such runs and numbers
pub record MayGoBeside (machine : Machine) (state : State) (kept : GoodPhase) : Type 0 where
  pub runs : ℕ → List ProcessRun
  pub numbers : ℕ → ℕ
  pub tells : TellsBeside machine state runs numbers kept

-- of each process, counted before the block, so many runs more may end in it
abbrev pub AreFew : Machine → GoodPhase → ℕ → Type 0
AreFew machine kept most = (numbers : ℕ → ℕ) → AreNumbers numbers kept.numbers → (process : ℕ) → process < length machine.design.processes → numbers process + most < 2 ^ 32

-- The processes of a block

-- a process of which nothing is kept: no run of it ended, and none goes on
abbrev pub fresh : ProcessBeside
fresh = record { ended = 0; going = None }

-- what is kept of a process
abbrev pub row_at : List ProcessBeside → ℕ → ProcessBeside
row_at rows process = get_or rows process fresh

-- of the other processes nothing is kept
abbrev pub AreClean : List ProcessBeside → List ProcId → Type 0
AreClean rows stepped = (process : ℕ) → has (map process_number stepped) process ≡ false → row_at rows process ≡ fresh

-- the last of some runs of a process goes on: how many of its steps were taken, whether it goes as the good machine's of its number, and that else all its steps count as own
pub record InMidst (good : Option ProcessRun) (runs : List ProcessRun) (ended : ℕ) (going : RunBeside) : Type 0 where
  pub before : List ProcessRun
  pub run : ProcessRun
  pub are : runs ≡ before ++ run ∷ []
  pub goes : is_going run.steps ≡ true
  pub count : length before ≡ ended
  pub taken : going.taken ≡ length run.steps
  pub follows : going.follows ≡ true → FollowsSoFar good run
  pub own : going.follows ≡ false → AllCount good run

-- what is kept of a process tells its runs in the block, the first of which has a number beside the good machine's
abbrev pub TellsRow : List ProcessRun → ℕ → List ProcessRun → ℕ → Option RunBeside → Type 0
TellsRow goods number runs ended None = (last_goes_on runs ≡ false) × (length runs ≡ ended)
TellsRow goods number runs ended (Some going) = InMidst (slice_get goods (number + ended)) runs ended going

-- so does what is kept of each process, behind some events of the block
pub record IsBeside (machine : Machine) (begins : State) (runs : ℕ → List ProcessRun) (numbers : ℕ → ℕ) (events : List Event) (rows : List ProcessBeside) : Type 0 where
  pub each : (process : ℕ) → TellsRow (runs process) (numbers process) (runs_of (steps_in machine process begins events)) (row_at rows process).ended (row_at rows process).going

-- how many steps of the run with the next step were taken
abbrev pub taken_of : Option RunBeside → ℕ
taken_of None = 0
taken_of (Some going) = going.taken

-- the ends of runs are listed, and neither more runs ended nor has a run more steps than steps were taken
pub record AreListed (rows : List ProcessBeside) (ended : List ProcId) (taken : ℕ) : Type 0 where
  pub times : (process : ℕ) → (row_at rows process).ended ≡ times_of process (map process_number ended)
  pub few : (process : ℕ) → (row_at rows process).ended ≤ taken
  pub short : (process : ℕ) → taken_of (row_at rows process).going ≤ taken
