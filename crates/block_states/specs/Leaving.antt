-- Where a block leaves the processes (IEEE 1364-2001, clauses 5 and 9).
use Rattle.std.specs.Prelude.{◌≡◌, ℕ, true, false, List, [], ◌∷◌}
use Rattle.v_design.specs.Designs.{Machine}
use Rattle.v_design.specs.Processes.{Activity, Ready, Waiting, Asleep, Postponed, Done}
use Rattle.v_design.specs.States.{State, Event, process_at, is_ready}
use Rattle.v_design.specs.Runs.{happened}
use Rattle.v_design.specs.OwnSteps.{steps_in, runs_of}
use Rattle.machine_laws.specs.SlotLoop.{NoNodeWorks}
use Rattle.between_slots.specs.Between.{activity_after_runs}
use Rattle.block_changes.specs.Changes.{ends_wait_of, steps_process}
use Rattle.phase_blocks.specs.Blocks.{IsWholeBlock}

-- what a process does once its wait has ended
abbrev pub wait_ended : Activity → Activity
wait_ended (Ready tasks operands) = Ready tasks operands
wait_ended (Waiting place entries tasks) = Ready tasks []
wait_ended (Asleep time tasks) = Asleep time tasks
wait_ended (Postponed tasks) = Postponed tasks
wait_ended Done = Done

-- a process behind some events from a state on, as its runs among them and the ends of waits tell
pub record Leaves (machine : Machine) (begins : State) (events : List Event) (process : ℕ) : Type 0 where
  -- one that took a step isn't ready, and does what its last run left it doing
  pub stepped : steps_process events process ≡ true →
      (is_ready (process_at (happened machine begins events) process).activity ≡ false)
      × ((process_at (happened machine begins events) process).activity
      ≡ activity_after_runs (process_at begins process).activity (runs_of (steps_in machine process begins events)))
  -- one that took none does what it did, and is ready to go on where its wait has ended
  pub stays : steps_process events process ≡ false → ends_wait_of machine begins events process ≡ false →
      (process_at (happened machine begins events) process).activity ≡ (process_at begins process).activity
  pub woken : steps_process events process ≡ false → ends_wait_of machine begins events process ≡ true →
      (process_at (happened machine begins events) process).activity ≡ wait_ended (process_at begins process).activity

-- so a block leaves each process
abbrev pub BlocksLeave : Type 0
BlocksLeave =
    (machine : Machine) (begins : State) (first : Event) (events : List Event) (process : ℕ) → NoNodeWorks begins → IsWholeBlock machine begins (first ∷ events) →
    Leaves machine begins (first ∷ events) process
