-- The ends of the process runs of more and more phases (phases by IEEE 1364-2001, clause 5; processes by clause 9).
use Rattle.std.specs.Prelude.{◌≡◌, ℕ, ◌+◌, ◌<◌, List, ◌++◌, map, length, Some, slice_get}
use Rattle.vf_base.specs.Lists.{joined, map_numbered}
use Rattle.std.specs.List.{All}
use Rattle.std.specs.List.Sorted.{IsNonDecreasingBy}
use Rattle.v_design.specs.Designs.{Machine}
use Rattle.v_design.specs.Grades.{Phase}
use Rattle.process_code.specs.Points.{activity_of}
use Rattle.process_code.specs.StatesOf.{IsStateOf}
use Rattle.process_code.specs.declared.code.Code.{Code}
use Rattle.process_code.specs.declared.state.ProcState.{ProcState}
use Rattle.process_code.specs.declared.state.RunEnd.{RunEnd}
use Rattle.run_ends.specs.RunEnds.{ender_told, phase_enders, AreRunEnds}
use Rattle.between_slots.specs.Between.{activity_after_runs, runs_in}
use Rattle.between_slots.specs.Updates.{appended_in}
use Rattle.window_runs.specs.RunsByProcess.{run_process, run_phase, runs_of_process, numbered_from}
use Rattle.window_runs.specs.Standing.{standing_after, last_run}
use Rattle.window_runs.specs.Through.{runs_through, appended_of}

-- the ends of the runs of some phases, and behind them those of others, numbered on
abbrev pub EndsJoin : Type 0
EndsJoin =
    (codes : List Code) (machine : Machine) (phases more : List Phase) (runs others : List RunEnd) → AreRunEnds codes machine phases runs → AreRunEnds codes machine more others →
    AreRunEnds codes machine (phases ++ more) (runs ++ map (numbered_from (length phases)) others)

-- their phases ascend, and their processes have codes
abbrev pub EndsAscend : Type 0
EndsAscend =
    (codes : List Code) (machine : Machine) (phases : List Phase) (runs : List RunEnd) → AreRunEnds codes machine phases runs →
    IsNonDecreasingBy run_phase runs × All (λ (run : RunEnd). run_process run < length codes) runs

-- after some phases a process stands in a state of its code
abbrev pub EndsStand : Type 0
EndsStand =
    (codes : List Code) (machine : Machine) (phases : List Phase) (runs : List RunEnd) (process : ℕ) (code : Code) (state : ProcState) → AreRunEnds codes machine phases runs →
    slice_get codes process ≡ Some code → IsStateOf code state → IsStateOf code (standing_after state (last_run process runs))

-- and does what its runs in them left it doing
abbrev pub EndsLead : Type 0
EndsLead =
    (codes : List Code) (machine : Machine) (phases : List Phase) (runs : List RunEnd) (process : ℕ) (code : Code) (state : ProcState) → AreRunEnds codes machine phases runs →
    slice_get codes process ≡ Some code →
    activity_of code (standing_after state (last_run process runs)) ≡ activity_after_runs (activity_of code state) (runs_in machine process phases)

-- the first of some phases: their runs' ends are those in the phases up to their last one
abbrev pub EndsPart : Type 0
EndsPart =
    (codes : List Code) (machine : Machine) (phases more : List Phase) (runs : List RunEnd) → AreRunEnds codes machine (phases ++ more) runs →
    AreRunEnds codes machine phases (runs_through (length phases) runs)

-- the runs of a process append what the definitions say
abbrev pub EndsAppend : Type 0
EndsAppend =
    (codes : List Code) (machine : Machine) (phases : List Phase) (runs : List RunEnd) (process : ℕ) (code : Code) → AreRunEnds codes machine phases runs →
    slice_get codes process ≡ Some code → appended_of (runs_of_process process runs) ≡ appended_in machine process phases

-- between the ends in the phases up to one and those in the phases up to a later one are those of the runs that end in the phases between
abbrev pub EndsBetween : Type 0
EndsBetween =
    (codes : List Code) (machine : Machine) (phases own more : List Phase) (runs between : List RunEnd) → AreRunEnds codes machine ((phases ++ own) ++ more) runs →
    runs_through (length phases) runs ++ between ≡ runs_through (length phases + length own) runs →
    map ender_told between ≡ joined (map_numbered (phase_enders machine) (length phases + 1) own)
