-- The laws are proved in `Begun`.
use Rattle.lockstep_waits.proofs.Begun.{last_waits_are_begun, last_waits_are_like}
use Rattle.lockstep_waits.proofs.waits_are_begun.Goals as goal

pub returns-clause-begun : goal.returns-clause-begun
returns-clause-begun c = last_waits_are_begun

pub returns-clause-like : goal.returns-clause-like
returns-clause-like c = last_waits_are_like
