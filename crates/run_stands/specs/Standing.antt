-- Where a first run stands between its slots (slots by IEEE 1364-2001, clause 5).
use Rattle.std.specs.Prelude.{ℕ, ◌≤◌}
use Rattle.v_design.specs.Designs.{Machine}
use Rattle.v_design.specs.Runs.{first_run}
use Rattle.v_design.specs.Grades.{first_stop}
use Rattle.v_design.specs.WellFormed.{KeepsRules}
use Rattle.copy_laws.specs.Windows.{state_at}
use Rattle.grade_laws.specs.Ahead.{StopsAfter}
use Rattle.machine.specs.Standing.{StandsBetween}

-- the state of a first run at a time up to which it doesn't stop stands between two of its slots, so that a machine may be put into it
abbrev pub StatesStandBetween : Type 0
StatesStandBetween =
    (machine : Machine) (end time : ℕ) → KeepsRules machine.design → time ≤ end → StopsAfter time (first_stop machine (first_run machine end)) → StandsBetween machine (state_at machine end time)
