use Rattle.std.proofs.Common.{◌≡◌, ◌++◌}
use Rattle.plan_read.specs.Forms.{row}
use Rattle.plan_read.proofs.draft.push_row.Given as goal

abbrev pub invariant-times : goal.invariant-times
invariant-times l = l.strobes.items ≡ l.initial.strobes.items ++ row l.from l.step l.i
