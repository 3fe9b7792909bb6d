use Rattle.std.proofs.Common.{take}
use Rattle.good_trace.specs.Starting.{AreFirstStates}
use Rattle.good_trace.proofs.between.first_states.Given as goal

abbrev pub invariant-codes : goal.invariant-codes
invariant-codes l = AreFirstStates (take l.code-index l.codes) l.states.items
