use Rattle.moment_parts.specs.Turned.{at_postponed}
use Rattle.moment_parts.proofs.Woken.{AreWokenBelow}
use Rattle.moment_parts.proofs.turning.resume.Given as goal

abbrev pub invariant-states : goal.invariant-states
invariant-states l = AreWokenBelow at_postponed l.place l.fn.states.items l.states.items
