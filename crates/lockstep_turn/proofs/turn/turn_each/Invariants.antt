-- So far the faults before one have turned.
use Rattle.phase_faults.proofs.Lists.{ChangedTo}
use Rattle.lockstep_turn.specs.Turning.{TurnsBeside}
use Rattle.lockstep_turn.proofs.turn.turn_each.Given as goal

abbrev pub invariant-faults : goal.invariant-faults
invariant-faults g l = ChangedTo (TurnsBeside l.now l.good) l.place l.fn.faults.items l.faults.items
