-- Stops as plain data (slots by IEEE 1364-2001, clause 5).
use Rattle.std.specs.Prelude.{◌≡◌, ℕ, Option, Some, None}
use Rattle.vf_base.specs.Base.{reported_pair}
use Rattle.vf_base.specs.declared.finding.Pair.{Pair}
use Rattle.v_design.specs.Grades as plain
use Rattle.machine.specs.Standing.{outcome_of}
use Rattle.machine.specs.declared.end.SlotEnd.{SlotEnd}
use Rattle.fault_grade.specs.declared.stop.Stop.{Stop}
use Rattle.fault_grade.specs.declared.stop.Stop.TheVariants.{Race, Loop}

-- a race, as the stop of a run
abbrev pub race_stop : Pair → plain.Stop
race_stop pair = record { time = pair.time; outcome = plain.Race (reported_pair pair) }

-- a loop, as the stop of a run
abbrev pub loop_stop : ℕ → plain.Stop
loop_stop time = record { time = time; outcome = plain.Hyper }

-- a stop
abbrev pub stop_view : Stop → plain.Stop
stop_view (Race pair) = race_stop pair
stop_view (Loop time) = loop_stop time

-- a race that may be there
abbrev pub race_if : Option Pair → Option plain.Stop
race_if None = None
race_if (Some pair) = Some (race_stop pair)

-- the slot of a time ends so: fine where there is no stop, else with the stop's outcome
abbrev pub StopsSo : ℕ → SlotEnd → Option Stop → Type 0
StopsSo time end None = outcome_of end ≡ plain.Fine
StopsSo time end (Some (Race pair)) = outcome_of end ≡ plain.Race (reported_pair pair)
StopsSo time end (Some (Loop at)) = (outcome_of end ≡ plain.Hyper) × (at ≡ time)
