-- Whether a process stands where a run of the good machine began, and which of the steps that were tried comes next.
use Rattle.std.specs.Prelude.{◌≡◌, ◌⊎◌, ℕ, List, None, Some, slice_get}
use Rattle.v_design.specs.Places.{PlacesDiffer}
use Rattle.process_code.specs.Points.{activity_of}
use Rattle.process_code.specs.StatesOf.{IsStateOf}
use Rattle.process_code.specs.declared.code.Code.{Code}
use Rattle.process_code.specs.declared.state.RunEnd.{RunEnd}
use Rattle.process_code.specs.declared.state.StepTaken.{StepTaken}
use Rattle.run_ends.specs.RunEnds.{IsCodeAt}
use Rattle.good_runs.specs.declared.tried.TriedStep.{TriedStep}
use Rattle.process_table.specs.Arranged.{table_of}
use Rattle.process_table.specs.Tables.{process_in}
use Rattle.process_table.specs.Waited.{body_of}
use Rattle.process_table.specs.declared.table.ProcessTable.{ProcessTable}
use Rattle.runs_beside.specs.Beside.{HasPlace}
use Rattle.runs_beside.specs.declared.run.RunSoFar.{RunSoFar}

-- the process does what it did before the run's first step
pub record BeginsAlike (table : ProcessTable) (process : ℕ) (found : RunEnd) : Type 0 where
  pub one : StepTaken
  pub at : slice_get found.steps 0 ≡ Some one
  pub same : (code : Code) → IsCodeAt (table_of table).design process code → (process_in (table_of table) process).activity ≡ activity_of code one.state

-- the run has no steps, or the process does something else, if no two statements of it stand at one place
pub data BeginsOtherwise (table : ProcessTable) (process : ℕ) (found : RunEnd) : Type 0 where
  HasNone : slice_get found.steps 0 ≡ None → BeginsOtherwise table process found
  Differs : (one : StepTaken) → slice_get found.steps 0 ≡ Some one →
      ((code : Code) → IsCodeAt (table_of table).design process code → PlacesDiffer (body_of (table_of table).design process) → IsStateOf code one.state →
      (process_in (table_of table) process).activity ≡ activity_of code one.state → ⊥) → BeginsOtherwise table process found

-- the next one of the steps that were tried has the place of the next step
pub record ComesNext (tried : List TriedStep) (next phase process : ℕ) (run : RunSoFar) (one : TriedStep) : Type 0 where
  pub at : slice_get tried next ≡ Some one
  pub place : HasPlace phase process run one

-- it has another place, or there is none left
abbrev pub ComesLater : List TriedStep → ℕ → ℕ → ℕ → RunSoFar → Type 0
ComesLater tried next phase process run = (one : TriedStep) → slice_get tried next ≡ Some one → HasPlace phase process run one → ⊥
