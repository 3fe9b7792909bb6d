-- The runs of a phase, as the ends of a window's runs tell of them (phases by IEEE 1364-2001, clause 5; processes by clause 9).
use Rattle.std.specs.Prelude.{◌≡◌, ℕ, ◌<◌, List, map, length, Option, Some}
use Rattle.std.specs.List.{All}
use Rattle.std.specs.Option.{option_map}
use Rattle.v_design.specs.Designs.{FlatDesign}
use Rattle.v_design.specs.OwnSteps.{ProcessRun}
use Rattle.process_code.specs.RunEnds.{StandsIn, told_by}
use Rattle.process_code.specs.declared.code.Code.{Code}
use Rattle.process_code.specs.declared.state.RunEnd.{RunEnd}
use Rattle.run_ends.specs.RunEnds.{IsCodeAt, ends_of, told_of}
use Rattle.window_runs.specs.RunsByProcess.{IsRunIndexOf}
use Rattle.window_runs.specs.declared.phase.PhaseRuns.{PhaseRuns}

-- at a time these are the runs of each process in the phase: the ends of the phase tell of them by each code of the process, in order, and stand in states of that code
pub record TellsRuns (design : FlatDesign) (time : ℕ) (runs : ℕ → List ProcessRun) (kept : PhaseRuns) : Type 0 where
  pub index_is : IsRunIndexOf (length design.processes) kept.runs.now kept.index.now
  pub told : (process : ℕ) (code : Code) → IsCodeAt design process code → map (told_by code) (ends_of kept.phase process kept.runs.now) ≡ map (told_of time) (runs process)
  pub stand : (process : ℕ) (code : Code) → IsCodeAt design process code → All (StandsIn code) (ends_of kept.phase process kept.runs.now)

-- the phase has runs of a process of a design
pub record HasRunsOf (process : ℕ) (kept : PhaseRuns) : Type 0 where
  pub design : FlatDesign
  pub time : ℕ
  pub runs : ℕ → List ProcessRun
  pub tells : TellsRuns design time runs kept
  pub there : process < length design.processes

-- what was found tells, by each code of a process, of this run at a time, if there is one, and stands in states of that code
pub record TellsGoodRun (design : FlatDesign) (time process : ℕ) (run : Option ProcessRun) (found : Option RunEnd) : Type 0 where
  pub told : (code : Code) → IsCodeAt design process code → option_map (told_by code) found ≡ option_map (told_of time) run
  pub stand : (code : Code) (one : RunEnd) → IsCodeAt design process code → found ≡ Some one → StandsIn code one
