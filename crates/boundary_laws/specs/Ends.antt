-- Which steps of a phase of the first order end a run, told by the events alone (events by IEEE 1364-2001, clause 5; processes by clause 9).
use Rattle.std.specs.Prelude.{◌≡◌, ℕ, Bool, true, false, List, [], ◌∷◌, ◌++◌, nat_eq, nat_le}
use Rattle.v_design.specs.Designs.{Machine}
use Rattle.v_design.specs.States.{State, Event, Step, LaneStep, Evaluation, NetUpdate, is_ready, step_of}
use Rattle.v_design.specs.Runs.{happened}
use Rattle.copy_laws.specs.Beside.{AreFirst}
use Rattle.phase_blocks.specs.Blocks.{IsBetweenRuns}

-- what a later process step says of whether a process takes a further step before a greater one does: it is its own, one of a greater process, or one of a lesser
abbrev pub further_step : ℕ → ℕ → Bool → Bool
further_step process other later = elim (nat_eq process other) [ true ↦ true | false ↦ elim (nat_le process other) [ true ↦ false | false ↦ later ] ]

-- whether a process takes a further step among some events, before a greater process takes one
abbrev pub steps_further : ℕ → List Event → Bool
steps_further process [] = false
steps_further process (Step other ∷ events) = further_step process other (steps_further process events)
steps_further process (LaneStep other ∷ events) = steps_further process events
steps_further process (Evaluation node ∷ events) = steps_further process events
steps_further process (NetUpdate node ∷ events) = steps_further process events

-- The law: up to a moment between runs, a step leaves its process ready just where that takes a further step before a greater process does; all other steps end a run
abbrev pub StepsTellEnds : Type 0
StepsTellEnds =
    (machine : Machine) (begins : State) (before : List Event) (process : ℕ) (behind : List Event) → AreFirst machine begins (before ++ Step process ∷ behind) →
    IsBetweenRuns machine begins (before ++ Step process ∷ behind) → is_ready (step_of machine (happened machine begins before) process).next ≡ steps_further process behind
