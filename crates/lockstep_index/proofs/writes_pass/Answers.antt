-- The law is proved in `Passed`.
use Rattle.lockstep_index.proofs.Passed.{writes_pass}
use Rattle.lockstep_index.proofs.writes_pass.Goals as goal

pub returns : goal.returns
returns c = writes_pass (record {
  fit = c.phases_fit.ensures;
  side = c.lockstep_is_beside.ensures.beside;
  pass = c.untouched.ensures.pass;
  free = c.free_events.ensures.pass;
  accesses = c.quiet_phases.ensures.accesses;
  does = c.quiet_phases.ensures.alike;
  changes = c.moves.ensures.events;
  rest = c.nodes_rest.ensures;
})
