use Rattle.std.proofs.Common.{◌≡◌, ◌<◌, ℕ, [], length, map, get_or}
use Rattle.v_design.specs.Plain.{due_of}
use Rattle.window_runs.specs.Through.{pending_through}
use Rattle.window_runs.proofs.updates.updates_after.Given as goal

abbrev pub invariant-processes : goal.invariant-processes
invariant-processes l = record {
  count : length l.later.items ≡ l.number;
  each :
      (process : ℕ) → process < l.number → map due_of (get_or l.later.items process []) ≡ pending_through process l.phase l.time (map due_of (get_or l.updates process [])) l.runs;
}
