-- The law is proved in `Freed`.
use Rattle.lockstep_index.proofs.Freed.{index_tells_free}
use Rattle.lockstep_index.proofs.index_tells_free.Goals as goal

pub returns : goal.returns
returns c = index_tells_free (record {
  sites = c.free_events.ensures.sites;
  rest = c.nodes_rest.ensures;
  first = c.settling_ends.ensures.first;
  fit = c.phases_fit.ensures;
  side = c.lockstep_is_beside.ensures.beside;
})
