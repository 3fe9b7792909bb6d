-- Which runs end in some events of a phase, told by the events alone (events by IEEE 1364-2001, clause 5; processes by clause 9).
use Rattle.std.specs.Prelude.{◌≡◌, ℕ, List, [], ◌∷◌, ◌++◌}
use Rattle.v_design.specs.Designs.{Machine}
use Rattle.v_design.specs.States.{State, Event, Step, LaneStep, Evaluation, NetUpdate}
use Rattle.copy_laws.specs.Beside.{AreFirst}
use Rattle.run_ends.specs.RunEnds.{ender_if, enders_in}
use Rattle.phase_blocks.specs.Blocks.{IsBetweenRuns}
use Rattle.boundary_laws.specs.Ends.{steps_further}

-- the processes of the steps behind which theirs takes no further step before a greater process does
abbrev pub last_steppers : List Event → List ℕ
last_steppers [] = []
last_steppers (Step process ∷ events) = ender_if (steps_further process events) process ++ last_steppers events
last_steppers (LaneStep process ∷ events) = last_steppers events
last_steppers (Evaluation node ∷ events) = last_steppers events
last_steppers (NetUpdate node ∷ events) = last_steppers events

-- The law: up to a moment between runs, and so in each block, just their runs end
abbrev pub EventsTellEnders : Type 0
EventsTellEnders =
    (machine : Machine) (begins : State) (events : List Event) → AreFirst machine begins events → IsBetweenRuns machine begins events → enders_in machine begins events ≡ last_steppers events
