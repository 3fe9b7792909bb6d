-- The law is proved in `Stood`.
use Rattle.run_stands.proofs.Stood.{states_stand}
use Rattle.run_stands.proofs.states_stand.Goals as goal

pub returns : goal.returns
returns c = states_stand (record {
  follow = c.first_run_goes_on.ensures;
  slots = c.first_slots_stand.ensures;
  runs = c.runs_go_on.ensures;
  stand = c.runs_stand.ensures;
  times = c.own_runs.ensures.time;
})
