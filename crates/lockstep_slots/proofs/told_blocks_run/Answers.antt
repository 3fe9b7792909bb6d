-- The law is proved in `Told`.
use Rattle.lockstep_slots.proofs.Told.{told_blocks_run}
use Rattle.lockstep_slots.proofs.told_blocks_run.Goals as goal

pub returns : goal.returns
returns c = told_blocks_run (record {
  goes = c.slots_in_lockstep.ensures;
  fit = c.phases_fit.ensures;
  parts = c.events_are_told.ensures.parts;
  causes = c.events_are_told.ensures.causes;
  add_up = c.lockstep_blocks.ensures.changes;
})
