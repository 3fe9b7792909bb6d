-- The laws are proved in `Taking`.
use Rattle.copy_lockstep.proofs.Taking.{slots-take}
use Rattle.copy_lockstep.proofs.steps.slots_take_own.Goals as goal

pub returns : goal.returns
returns c = slots-take (record {
  copies = c.copies_go_in_lockstep.ensures;
  shards = c.shards_go_in_lockstep.ensures;
  rise = c.own_steps_rise.ensures;
  tried = c.tried_steps_go_on.ensures;
  takes = c.runs_take_steps.ensures;
  goes = c.gradings_go_on.ensures;
  runs = c.runs_go_on.ensures;
  first = c.first_run_goes_on.ensures;
  good = c.good_run_goes_on.ensures;
  windows = c.windows_end.ensures;
})
