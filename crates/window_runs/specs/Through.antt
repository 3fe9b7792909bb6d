-- The runs in the first phases of a window, and the updates that processes have pending after them (phases by IEEE 1364-2001, clause 5; nonblocking updates by clause 9.2.2).
use Rattle.std.specs.Prelude.{◌≡◌, ℕ, ◌<◌, ◌++◌, List, [], map, filter, get_or, length, nat_le}
use Rattle.vf_base.specs.Lists.{joined}
use Rattle.v_design.specs.Plain.{due_of}
use Rattle.v_design.specs.States.{LaterUpdate}
use Rattle.v_design.specs.declared.plan.Due.{Due}
use Rattle.process_code.specs.declared.state.RunEnd.{RunEnd}
use Rattle.between_slots.specs.Updates.{due_after}
use Rattle.window_runs.specs.RunsByProcess.{run_phase, runs_of_process}

-- the runs in the phases up to one, and in that
abbrev pub runs_through : ℕ → List RunEnd → List RunEnd
runs_through phase runs = filter (λ (run : RunEnd). nat_le (run_phase run) phase) runs

-- the updates that some runs append, in order
abbrev pub appended_of : List RunEnd → List LaterUpdate
appended_of runs = joined (map (λ (run : RunEnd). map due_of run.later) runs)

-- those that the runs of a process in the phases up to one append
abbrev pub appended_through : ℕ → ℕ → List RunEnd → List LaterUpdate
appended_through process phase runs = appended_of (runs_of_process process (runs_through phase runs))

-- what a process has pending at a time after its runs in the phases up to one, where it had some updates pending before them
abbrev pub pending_through : ℕ → ℕ → ℕ → List LaterUpdate → List RunEnd → List LaterUpdate
pending_through process phase time first runs = due_after time (first ++ appended_through process phase runs)

-- the same of each process, by number
pub record AreUpdatesAfter (phase time : ℕ) (updates : List (List Due)) (runs : List RunEnd) (later : List (List Due)) : Type 0 where
  pub count : length later ≡ length updates
  pub each : (process : ℕ) → process < length updates → map due_of (get_or later process []) ≡ pending_through process phase time (map due_of (get_or updates process [])) runs
