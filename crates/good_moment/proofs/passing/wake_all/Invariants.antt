use Rattle.good_moment.proofs.Waking.{AreWokenSoFar}
use Rattle.good_moment.proofs.passing.wake_all.Given as goal

abbrev pub invariant-wakes : goal.invariant-wakes
invariant-wakes l = AreWokenSoFar l.wake-index l.wakes l.fn.states.items l.states.items l.fn.acted.items l.acted.items
