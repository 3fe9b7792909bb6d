use Rattle.moment_parts.specs.Turned.{at_end_of_sleep}
use Rattle.moment_parts.proofs.Woken.{AreWokenBelow}
use Rattle.moment_parts.proofs.turning.awake.Given as goal

abbrev pub invariant-states : goal.invariant-states
invariant-states l = AreWokenBelow (at_end_of_sleep l.now) l.place l.fn.states.items l.states.items
