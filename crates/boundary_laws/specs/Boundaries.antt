-- Processes at the moments between runs of a phase of the first order (events and phases by IEEE 1364-2001, clause 5; processes by clause 9).
use Rattle.std.specs.Prelude.{◌≡◌, ℕ, true, false, List}
use Rattle.v_design.specs.Designs.{Machine}
use Rattle.v_design.specs.States.{State, Event, process_at, is_ready, some_in}
use Rattle.v_design.specs.Runs.{happened}
use Rattle.copy_laws.specs.Beside.{AreFirst}
use Rattle.phase_blocks.specs.Blocks.{IsBetweenRuns, is_step_from}
use Rattle.block_states.specs.Leaving.{Leaves}

-- The laws, at each moment between runs of a phase

-- a process is left as its runs in the phase so far and the ends of waits tell: nothing has ended its wait since its last run there
abbrev pub ProcessAtBoundary : Type 0
ProcessAtBoundary =
    (machine : Machine) (begins : State) (before : List Event) (process : ℕ) → AreFirst machine begins before → IsBetweenRuns machine begins before → Leaves machine begins before process

-- and where a process took a step neither it nor a lesser one is ready
abbrev pub LesserRest : Type 0
LesserRest =
    (machine : Machine) (begins : State) (before : List Event) (process : ℕ) → AreFirst machine begins before → IsBetweenRuns machine begins before →
    some_in (is_step_from process) before ≡ true → is_ready (process_at (happened machine begins before) process).activity ≡ false
