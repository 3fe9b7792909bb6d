-- The law is proved in `Passed`.
use Rattle.lockstep_laws.proofs.Passed.{lockstep_passes}
use Rattle.lockstep_laws.proofs.lockstep_passes.Goals as goal

pub returns : goal.returns
returns c = lockstep_passes (record {
  fit = c.phases_fit.ensures;
  side = c.lockstep_is_beside.ensures.beside;
  pass = c.untouched.ensures.pass;
  free = c.free_events.ensures.pass;
  accesses = c.quiet_phases.ensures.accesses;
  does = c.quiet_phases.ensures.alike;
  stays = c.moves.ensures.jump;
  rest = c.nodes_rest.ensures;
})
