use Rattle.good_moment.specs.Kept.{AreBegun}
use Rattle.good_moment.proofs.moment.first_standing.Given as goal

abbrev pub invariant-codes : goal.invariant-codes
invariant-codes l = AreBegun l.codes l.code-index l.states.items l.later.items l.lanes.items l.ran.items
