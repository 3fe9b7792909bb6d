use Rattle.moment_parts.proofs.Pending.{AreActivatedBelow}
use Rattle.moment_parts.proofs.turning.activate_all.Given as goal

abbrev pub invariant-processes : goal.invariant-processes
invariant-processes l = AreActivatedBelow l.now l.place l.fn.standing l.standing
