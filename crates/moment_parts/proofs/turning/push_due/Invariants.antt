use Rattle.std.proofs.Common.{◌≡◌, ◌++◌, map, take}
use Rattle.v_design.specs.Plain.{due_of, update_of}
use Rattle.moment_parts.specs.Turned.{activated}
use Rattle.moment_parts.proofs.turning.push_due.Given as goal

abbrev pub invariant-updates : goal.invariant-updates
invariant-updates l = map update_of l.updates.items ≡ map update_of l.fn.updates.items ++ activated l.now (map due_of (take l.due-index l.later))
