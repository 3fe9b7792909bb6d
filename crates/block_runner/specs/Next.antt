-- The next step of a process in a block, beside the good machine's run of its number (steps and runs by IEEE 1364-2001, clause 9).
use Rattle.std.specs.Prelude.{◌≡◌, ℕ, ◌+◌, ◌<◌, ◌^◌, Bool, true, false, List, [], ◌∷◌, ◌++◌, length, set, slice_get, Option, Some, None}
use Rattle.vf_base.specs.Base.{process_number}
use Rattle.vf_base.specs.Counts.{raised}
use Rattle.vf_base.specs.declared.ids.ProcId.{ProcId}
use Rattle.v_design.specs.Designs.{Machine}
use Rattle.v_design.specs.OwnSteps.{ProcessRun}
use Rattle.v_design.specs.States.{State, is_ready, next_activity, process_at, step_of}
use Rattle.process_code.specs.Points.{activity_of}
use Rattle.process_code.specs.RunEnds.{act_by, act_of}
use Rattle.process_code.specs.StatesOf.{IsStateOf}
use Rattle.process_code.specs.declared.code.Code.{Code}
use Rattle.process_code.specs.declared.state.ProcState.{ProcState}
use Rattle.process_code.specs.declared.state.RunEnd.{RunEnd}
use Rattle.process_code.specs.declared.state.StepAct.{StepAct}
use Rattle.run_ends.specs.RunEnds.{IsCodeAt}
use Rattle.process_table.specs.Known.{IsKnownStep}
use Rattle.copy_overlay.specs.Statuses.{AllCount}
use Rattle.good_runs.specs.declared.tried.TriedStep.{TriedStep}
use Rattle.known_steps.specs.Beside.{FollowsSoFar, IsInRun, TellsRunHere, run_behind}
use Rattle.known_steps.specs.declared.known.KnownStep.{KnownStep}
use Rattle.run_numbers.specs.Numbers.{AreNumbers}
use Rattle.block_runner.specs.Beside.{TellsBeside, row_at, taken_of}
use Rattle.block_runner.specs.declared.goods.GoodPhase.{GoodPhase}
use Rattle.block_runner.specs.declared.rows.ProcessBeside.{ProcessBeside}
use Rattle.block_runner.specs.declared.rows.RunBeside.{RunBeside}

-- Where a process stands

-- a run as far as it went is kept so: it has no step yet, or it goes as the good machine's, or all its steps count as own
abbrev pub GoesSo : Option ProcessRun → Option RunBeside → ProcessRun → Type 0
GoesSo good None run = run.steps ≡ []
GoesSo good (Some going) run =
    (going.taken ≡ length run.steps) × (0 < length run.steps) × (going.follows ≡ true → FollowsSoFar good run) × (going.follows ≡ false → AllCount good run)

-- a process is in the midst of this run, or begins it, and it is kept so
pub record IsAtRun (machine : Machine) (state : State) (process : ℕ) (good : Option ProcessRun) (going : Option RunBeside) (run : ProcessRun) : Type 0 where
  pub in_run : IsInRun machine state process run
  pub goes : GoesSo good going run

-- a run that was found tells of the good machine's, and the process is in the midst of a run that goes as it so far, at a place, or begins a run
pub record IsBesideRun (machine : Machine) (state : State) (process : ℕ) (good : ProcessRun) (found : RunEnd) (place : ℕ) (run : ProcessRun) : Type 0 where
  pub tells : TellsRunHere machine state process good found
  pub in_run : IsInRun machine state process run
  pub place_is : place ≡ length run.steps
  pub so_far : 0 < place → FollowsSoFar (Some good) run

-- there is such a run
pub record MayBeBeside (machine : Machine) (state : State) (process : ℕ) (found : RunEnd) (place : ℕ) : Type 0 where
  pub good : ProcessRun
  pub run : ProcessRun
  pub is : IsBesideRun machine state process good found place run

-- a process is at some run beside the good machine's of a number
pub record MayBeAtRun (machine : Machine) (state : State) (process number : ℕ) (kept : GoodPhase) (going : Option RunBeside) : Type 0 where
  pub runs : ℕ → List ProcessRun
  pub numbers : ℕ → ℕ
  pub run : ProcessRun
  pub tells : TellsBeside machine state runs numbers kept
  pub is : IsAtRun machine state process (slice_get (runs process) number) going run

-- the place of the next step in its run, where the run may go as the good machine's
abbrev pub FollowsAt : Option RunBeside → Option ℕ → Type 0
FollowsAt going None = (run : RunBeside) × (going ≡ Some run) × (run.follows ≡ false)
FollowsAt None (Some place) = place ≡ 0
FollowsAt (Some run) (Some place) = (place ≡ run.taken) × (run.follows ≡ true)

-- The next step

-- it is known, and with it the run goes as the good machine's so far
pub record Follows (machine : Machine) (state : State) (process : ℕ) (good : Option ProcessRun) (run : ProcessRun) (told_line : ℕ) (told_act : StepAct) (next : ProcState) : Type 0 where
  pub known : IsKnownStep machine state process told_line told_act next
  pub stands : (code : Code) → IsCodeAt machine.design process code → IsStateOf code next
  pub follows : FollowsSoFar good (run_behind machine state process run)

-- a step is known that a process takes next
abbrev pub IsKnownHere : Machine → State → ℕ → KnownStep → Type 0
IsKnownHere machine state process known =
    IsKnownStep machine state process known.line known.act known.next.now × ((code : Code) → IsCodeAt machine.design process code → IsStateOf code known.next.now)

-- or with it all steps of the run count as own
abbrev pub TellsNext : Machine → State → ℕ → Option ProcessRun → ProcessRun → Option KnownStep → Type 0
TellsNext machine state process good run None = AllCount good (run_behind machine state process run)
TellsNext machine state process good run (Some known) = Follows machine state process good run known.line known.act known.next.now

-- so the step was taken: with it the run goes as the good machine's, or all its steps count as own
abbrev pub TookBeside : Machine → State → ℕ → Option ProcessRun → ProcessRun → Bool → Type 0
TookBeside machine state process good run true = FollowsSoFar good (run_behind machine state process run)
TookBeside machine state process good run false = AllCount good (run_behind machine state process run)

-- What is tried

-- a step that a process takes itself in a state, of the phase and of the run of these numbers, before which so many steps of the run were taken
pub record IsTried (machine : Machine) (state : State) (process phase told_number told_taken : ℕ) (one : TriedStep) : Type 0 where
  pub phase_is : one.phase ≡ phase
  pub process_is : process_number one.process ≡ process
  pub number : one.number ≡ told_number
  pub taken : one.taken ≡ told_taken
  pub line : one.line ≡ (step_of machine state process).line
  pub act : act_by one.act ≡ act_of state.time (step_of machine state process).action
  pub stands : (code : Code) → IsCodeAt machine.design process code → IsStateOf code one.state
  pub does : (code : Code) → IsCodeAt machine.design process code → activity_of code one.state ≡ next_activity state.values (step_of machine state process).action (step_of machine state process).next

-- it ticks and is put to the others
pub record TriesOne (machine : Machine) (state : State) (process phase told_number told_taken : ℕ) (old new : List TriedStep) (ticks_old ticks_new : ℕ) : Type 0 where
  pub one : TriedStep
  pub is : IsTried machine state process phase told_number told_taken one
  pub more : new ≡ old ++ one ∷ []
  pub ticks : ticks_new ≡ raised ticks_old

-- a step that follows isn't tried
abbrev pub TriesSo : Machine → State → ℕ → ℕ → ℕ → ℕ → List TriedStep → List TriedStep → ℕ → ℕ → Bool → Type 0
TriesSo machine state process phase told_number told_taken old new ticks_old ticks_new true = (new ≡ old) × (ticks_new ≡ ticks_old)
TriesSo machine state process phase told_number told_taken old new ticks_old ticks_new false = TriesOne machine state process phase told_number told_taken old new ticks_old ticks_new

-- What is kept behind it

-- of its process, which is ready then or not
abbrev pub row_behind : ProcessBeside → Bool → Bool → ProcessBeside
row_behind row follows true = record { ended = row.ended; going = Some (record { taken = taken_of row.going + 1; follows = follows }) }
row_behind row follows false = record { ended = row.ended + 1; going = None }

-- a run that ended is listed
abbrev pub ended_behind : {A : Type 0} → List A → A → Bool → List A
ended_behind ended process true = ended
ended_behind ended process false = ended ++ process ∷ []

-- A step beside

-- a process may take a step so: it is at some run, whose number is that of a run that is looked up
pub record MayStepBeside (machine : Machine) (state : State) (process : ℕ) (kept : GoodPhase) (row : ProcessBeside) : Type 0 where
  pub runs : ℕ → List ProcessRun
  pub numbers : ℕ → ℕ
  pub run : ProcessRun
  pub tells : TellsBeside machine state runs numbers kept
  pub few : numbers process + row.ended < 2 ^ 32
  pub is : IsAtRun machine state process (slice_get (runs process) (numbers process + row.ended)) row.going run

-- it takes a step, from a state of the machine to another: as the good machine's, or itself; and what is kept of it and of the ends of runs is told
pub record StepsBeside (machine : Machine) (state behind : State) (process : ProcId) (kept : GoodPhase) (rows_old rows_new : List ProcessBeside) (ended_old ended_new : List ProcId)
    (tried_old tried_new : List TriedStep) (ticks_old ticks_new : ℕ) : Type 0 where
  pub follows : Bool
  pub number : ℕ
  pub number_is : (numbers : ℕ → ℕ) → AreNumbers numbers kept.numbers → number ≡ numbers (process_number process) + (row_at rows_old (process_number process)).ended
  pub rows : rows_new ≡ set rows_old (process_number process) (row_behind (row_at rows_old (process_number process)) follows (is_ready (process_at behind (process_number process)).activity))
  pub ended : ended_new ≡ ended_behind ended_old process (is_ready (process_at behind (process_number process)).activity)
  pub tries : TriesSo machine state (process_number process) kept.phase number (taken_of (row_at rows_old (process_number process)).going) tried_old tried_new ticks_old ticks_new follows
  pub took : (runs : ℕ → List ProcessRun) (numbers : ℕ → ℕ) (run : ProcessRun) → TellsBeside machine state runs numbers kept →
      IsAtRun machine state (process_number process) (slice_get (runs (process_number process)) (numbers (process_number process) + (row_at rows_old (process_number process)).ended))
      (row_at rows_old (process_number process)).going run →
      TookBeside machine state (process_number process) (slice_get (runs (process_number process)) (numbers (process_number process) + (row_at rows_old (process_number process)).ended)) run follows
