use Rattle.moment_parts.proofs.Puts.{IsPutSoFar}
use Rattle.moment_parts.proofs.within.put_changes.Given as goal

abbrev pub invariant-changes : goal.invariant-changes
invariant-changes l = IsPutSoFar l.change-index l.changes l.fn.values.items l.values.items l.fn.changed.items l.changed.items
