-- The law is proved in `Told`.
use Rattle.quiet_index.proofs.Told.{index_tells_quiet}
use Rattle.quiet_index.proofs.index_tells_quiet.Goals as goal

pub returns : goal.returns
returns c = index_tells_quiet (record {
  sites = c.free_events.ensures.sites;
  nodes_rest = c.nodes_rest.ensures;
  first = c.settling_ends.ensures.first;
  slots = c.first_slots_stand.ensures;
  stand = c.runs_stand.ensures;
})
