-- What a record of process runs stands for (phases by IEEE 1364-2001, clause 5; processes by clause 9).
use Rattle.std.specs.Prelude.{◌≡◌, ℕ, ◌+◌, ◌<◌, true, false, List, [], ◌∷◌, ◌++◌, map, length, get_or, Option, None}
use Rattle.vf_base.specs.Base.{process_number}
use Rattle.v_design.specs.Plain.{due_of, update_of}
use Rattle.v_design.specs.Designs.{Machine}
use Rattle.v_design.specs.States.{State, Event, Step, TurnKind, step_of, process_at, is_ready}
use Rattle.v_design.specs.Runs.{Happens}
use Rattle.v_design.specs.Grades.{Phase}
use Rattle.v_design.specs.OwnSteps.{is_process_step}
use Rattle.process_code.specs.declared.state.ProcState.{ProcState}
use Rattle.process_code.specs.declared.state.RunEnd.{RunEnd}
use Rattle.process_code.specs.declared.state.StepTaken.{StepTaken}
use Rattle.slot_record.specs.SlotRecords.{one_more, state_in}
use Rattle.run_ends.specs.RunEnds.{HaveRunEnds}
use Rattle.run_record.specs.Notes.{SoFar, nothing_so_far, StepSays, StandsAfter, AreNotes}
use Rattle.run_record.specs.declared.record.RunSoFar.{RunSoFar}
use Rattle.run_record.specs.declared.record.RunRecord.{RunRecord}

-- what is kept of a present run
abbrev pub so_far : RunSoFar → SoFar
so_far run = record { later = map due_of run.later.items; writes = map update_of run.writes.items; steps = run.steps.items }

-- the present runs of the processes, by number
abbrev pub runs_so_far : RunRecord → List SoFar
runs_so_far kept = map so_far kept.present.items

-- a record stands for a slot: these phases ended, and this is the present one so far
abbrev pub RecordsRuns : Machine → List Phase → Phase → RunRecord → Type 0
RecordsRuns machine before phase kept = AreNotes machine before phase (runs_so_far kept) kept.ended.items

-- none of so many processes is in a run
pub record AreAtRest (processes : ℕ) (runs : List SoFar) : Type 0 where
  pub count : length runs ≡ processes
  pub nothing : (process : ℕ) → process < length runs → get_or runs process nothing_so_far ≡ nothing_so_far

abbrev pub IsAtRest : ℕ → RunRecord → Type 0
IsAtRest processes kept = AreAtRest processes (runs_so_far kept)

-- the end of a run of a process in the phase of a number, where the process stands so, and the run has these steps, which appended and wrote this
pub record IsEndOf (phase process : ℕ) (stands : ProcState) (told : SoFar) (run : RunEnd) : Type 0 where
  pub phase_is : run.phase ≡ phase
  pub process_is : process_number run.process ≡ process
  pub state_is : run.state ≡ stands
  pub later_is : map due_of run.later ≡ told.later
  pub writes_are : map update_of run.writes ≡ told.writes
  pub steps_are : run.steps ≡ told.steps

-- a step of a process more in the present phase, after which it is ready
abbrev pub NotesStep : (process : ℕ) (step : StepTaken) (old new : RunRecord) → Type 0
NotesStep process step old new =
    (machine : Machine) (before : List Phase) (phase : Phase) → RecordsRuns machine before phase old → StepSays machine (state_in machine phase) process step →
    is_ready (step_of machine (state_in machine phase) process).next ≡ true → RecordsRuns machine before (one_more (Step process) phase) new

-- and one after which it isn't, but stands so
abbrev pub NotesEnd : (number process : ℕ) (step : StepTaken) (stands : ProcState) (old new : RunRecord) → Type 0
NotesEnd number process step stands old new =
    (machine : Machine) (before : List Phase) (phase : Phase) → RecordsRuns machine before phase old → StepSays machine (state_in machine phase) process step →
    is_ready (step_of machine (state_in machine phase) process).next ≡ false → number ≡ length before + 1 → StandsAfter machine (state_in machine phase) process stands →
    RecordsRuns machine before (one_more (Step process) phase) new

-- The laws

-- an event that is no process step
abbrev pub EventsNoteNothing : Type 0
EventsNoteNothing =
    (machine : Machine) (before : List Phase) (phase : Phase) (event : Event) (kept : RunRecord) → is_process_step (Happens event) ≡ false → RecordsRuns machine before phase kept →
    RecordsRuns machine before (one_more event phase) kept

-- no process is ready
abbrev pub NoneReady : State → Type 0
NoneReady state = (process : ℕ) → is_ready (process_at state process).activity ≡ false

-- where no process is ready, a turn ends the phase and begins the next one
abbrev pub PhasesNoteNothing : Type 0
PhasesNoteNothing =
    (machine : Machine) (before : List Phase) (phase : Phase) (turn : Option TurnKind) (begins : State) (kept : RunRecord) → NoneReady (state_in machine phase) →
    RecordsRuns machine before phase kept →
    RecordsRuns machine (before ++ phase ∷ []) (record { turn = turn; begins = begins; events = [] }) kept

-- a slot begins where no process is in a run, and none has ended
abbrev pub SlotsBeginNotes : Type 0
SlotsBeginNotes =
    (machine : Machine) (begins : State) (kept : RunRecord) → IsAtRest (length machine.design.processes) kept → kept.ended.items ≡ [] →
    RecordsRuns machine [] (record { turn = None; begins = begins; events = [] }) kept

-- at its end, where no process is ready, no process is in a run, and the ends are those of all runs of its phases
pub record EndsNotes (machine : Machine) (phases : List Phase) (kept : RunRecord) : Type 0 where
  pub rests : IsAtRest (length machine.design.processes) kept
  pub ends : HaveRunEnds machine phases kept.ended.items

abbrev pub SlotsEndNotes : Type 0
SlotsEndNotes =
    (machine : Machine) (before : List Phase) (phase : Phase) (kept : RunRecord) → NoneReady (state_in machine phase) → RecordsRuns machine before phase kept →
    EndsNotes machine (before ++ phase ∷ []) kept
