-- How the runs of a process in a phase go beside the good machine's, as far as they went (phases by IEEE 1364-2001, clause 5; steps by clause 9).
use Rattle.std.specs.Prelude.{◌≡◌, ℕ, ◌+◌, ◌≤◌, Bool, true, false, cond, List, [], ◌∷◌, ◌++◌, length, Option, Some, None, nat_eq, slice_get}
use Rattle.v_design.specs.Designs.{Machine}
use Rattle.v_design.specs.Grades.{Phase}
use Rattle.v_design.specs.OwnSteps.{ProcessRun, process_runs}
use Rattle.copy_laws.specs.OwnRuns.{is_going, last_goes_on}
use Rattle.own_counts.specs.Counts.{OwnLast}
use Rattle.good_runs.specs.declared.tried.TriedStep.{TriedStep}
use Rattle.window_runs.specs.declared.slot.SlotRuns.{SlotRuns}
use Rattle.known_steps.specs.Beside.{FollowsSoFar}
use Rattle.runs_beside.specs.declared.beside.RunsBeside.{RunsBeside}
use Rattle.runs_beside.specs.declared.run.RunSoFar.{RunSoFar}

-- What is kept of a process

-- no run in the phase of a number
abbrev pub no_run : ℕ → RunSoFar
no_run phase = record { phase = phase; number = 0; taken = 0; follows = false }

-- what is kept of a process in the phase of a number: nothing where it is of an earlier phase
abbrev pub kept_in : ℕ → Option RunSoFar → RunSoFar
kept_in phase None = no_run phase
kept_in phase (Some run) = cond (nat_eq run.phase phase) run (no_run phase)

abbrev pub run_at : ℕ → List RunSoFar → ℕ → RunSoFar
run_at phase runs process = kept_in phase (slice_get runs process)

-- what is kept behind a step of a run
abbrev pub behind_step : RunSoFar → (ready follows : Bool) → RunSoFar
behind_step run true follows = record { phase = run.phase; number = run.number; taken = run.taken + 1; follows = follows }
behind_step run false follows = record { phase = run.phase; number = run.number + 1; taken = 0; follows = false }

-- a slot has begun: no run of any process, and none of the steps that were tried has come
pub record HasBegun (processes : ℕ) (goods : SlotRuns) (tried : List TriedStep) (kept : RunsBeside) : Type 0 where
  pub goods_are : kept.goods ≡ goods
  pub tried_are : kept.tried.now ≡ tried
  pub none : kept.next ≡ 0
  pub count : length kept.runs.items ≡ processes
  pub each : (process : ℕ) (run : RunSoFar) → slice_get kept.runs.items process ≡ Some run → run ≡ no_run 0

-- What it stands for

-- the runs of a phase of the good machine by process, if there is one
abbrev pub runs_in : Machine → Option Phase → ℕ → List ProcessRun
runs_in good None process = []
runs_in good (Some phase) process = process_runs good process phase

-- the runs of a process so far, beside some of the good machine that it may follow and those by which they count: none is in the midst, or one that goes as the good machine's of its number, or one whose steps all
-- count as own
pub data IsRunSoFar (goods own runs : List ProcessRun) (kept : RunSoFar) : Type 0 where
  Rests : last_goes_on runs ≡ false → length runs ≡ kept.number → kept.taken ≡ 0 → IsRunSoFar goods own runs kept
  Follows : (before : List ProcessRun) (run : ProcessRun) → runs ≡ before ++ run ∷ [] → is_going run.steps ≡ true → length before ≡ kept.number → length run.steps ≡ kept.taken →
      kept.follows ≡ true → FollowsSoFar (slice_get goods kept.number) run → IsRunSoFar goods own runs kept
  Owns : (before : List ProcessRun) (run : ProcessRun) → runs ≡ before ++ run ∷ [] → is_going run.steps ≡ true → length before ≡ kept.number → length run.steps ≡ kept.taken →
      kept.follows ≡ false → OwnLast own runs → IsRunSoFar goods own runs kept
