use Rattle.std.proofs.Common.{◌≡◌, ◌++◌, map, take}
use Rattle.vf_base.specs.Base.{process_number}
use Rattle.v_design.specs.Plain.{due_of}
use Rattle.between_slots.specs.Updates.{due_after}
use Rattle.window_runs.specs.RunsByProcess.{runs_of_process}
use Rattle.window_runs.specs.Through.{appended_of}
use Rattle.window_runs.proofs.index.RunIndex.push_appended.Given as goal

abbrev pub invariant-places : goal.invariant-places
invariant-places l =
    map due_of l.updates.items ≡ map due_of l.fn.updates.items ++ due_after l.time (appended_of (take l.place (runs_of_process (process_number l.process) l.runs)))
