-- The law is proved in `Copies`.
use Rattle.lockstep_copies.proofs.Copies.{copies_go_in_lockstep}
use Rattle.lockstep_copies.proofs.copies_go_in_lockstep.Goals as goal

pub returns : goal.returns
returns c = copies_go_in_lockstep (record {
  goes = c.slots_in_lockstep.ensures;
  begins = c.lockstep_stands.ensures.begins;
  stops = c.lockstep_stands.ensures.stops;
  same = c.nothing_becomes_same.ensures;
  slots = c.first_slots_stand.ensures;
  runs = c.runs_go_on.ensures;
  stand = c.runs_stand.ensures;
  good = c.good_run_goes_on.ensures;
  follow = c.first_run_goes_on.ensures;
})
