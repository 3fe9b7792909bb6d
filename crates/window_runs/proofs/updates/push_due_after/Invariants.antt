use Rattle.std.proofs.Common.{◌≡◌, ◌++◌, map, take}
use Rattle.v_design.specs.Plain.{due_of}
use Rattle.between_slots.specs.Updates.{due_after}
use Rattle.window_runs.proofs.updates.push_due_after.Given as goal

abbrev pub invariant-updates : goal.invariant-updates
invariant-updates l = map due_of l.updates.items ≡ map due_of l.fn.updates.items ++ due_after l.time (map due_of (take l.due-index l.more))
