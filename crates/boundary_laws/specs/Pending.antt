-- The nonblocking updates that a process has pending after some events of a phase, and its lane (events by IEEE 1364-2001, clause 5; nonblocking updates by clause 9.2.2).
use Rattle.std.specs.Prelude.{◌≡◌, ℕ, true, ◌++◌, List, count_by, drop}
use Rattle.v_design.specs.Designs.{Machine}
use Rattle.v_design.specs.States.{State, Event, process_at}
use Rattle.v_design.specs.Runs.{happened}
use Rattle.v_design.specs.Grades.{Phase}
use Rattle.v_design.specs.PhaseLogs.{is_lane_of}
use Rattle.copy_laws.specs.SharedRuns.{is_there}
use Rattle.between_slots.specs.Updates.{appended_in_phase}

-- The laws, of a phase or the first events of one

-- a process has pending what it had at first, and what its runs appended
abbrev pub RunsAppend : Type 0
RunsAppend =
    (machine : Machine) (phase : Phase) (process : ℕ) → is_there process phase.begins ≡ true →
    (process_at (happened machine phase.begins phase.events) process).later ≡ (process_at phase.begins process).later ++ appended_in_phase machine process phase

-- its lane is without as many of its updates, the first ones, as it took steps
abbrev pub LanesShorten : Type 0
LanesShorten =
    (machine : Machine) (state : State) (events : List Event) (process : ℕ) →
    (process_at (happened machine state events) process).lane ≡ drop (count_by (is_lane_of process) events) (process_at state process).lane
