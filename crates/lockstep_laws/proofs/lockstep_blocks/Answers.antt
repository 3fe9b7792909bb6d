-- The laws are proved in `Changed`.
use Rattle.lockstep_laws.proofs.Changed.{lockstep_blocks, lockstep_rests, changes_add_up}
use Rattle.lockstep_laws.proofs.lockstep_blocks.Goals as goal

pub returns-clause-blocks : goal.returns-clause-blocks
returns-clause-blocks c = lockstep_blocks c.moves.ensures.differences c.own_runs.ensures.time

pub returns-clause-rests : goal.returns-clause-rests
returns-clause-rests c = lockstep_rests (lockstep_blocks c.moves.ensures.differences c.own_runs.ensures.time)

pub returns-clause-changes : goal.returns-clause-changes
returns-clause-changes c = changes_add_up c.moves.ensures.events
