-- The laws are proved in `Leaving`, `Resting` and `Leading`.
use Rattle.between_slots.proofs.Leaving.{slots_leave}
use Rattle.between_slots.proofs.Resting.{slots_rest}
use Rattle.between_slots.proofs.Leading.{runs_lead}
use Rattle.between_slots.proofs.runs_lead.Goals as goal

pub returns-clause-rest : goal.returns-clause-rest
returns-clause-rest c = slots_rest (record {
  begin = c.slot_goes_on.ensures.begin;
  event = c.stretches_go_on.ensures.event;
  turn = c.slot_goes_on.ensures.turn;
  ends = c.slots.ensures;
  phases = c.nets.ensures.begin;
  runs = c.first_run_goes_on.ensures;
})

pub returns-clause-slot : goal.returns-clause-slot
returns-clause-slot c = slots_leave

pub returns-clause-runs : goal.returns-clause-runs
returns-clause-runs c = runs_lead (record {
  begin = c.slot_goes_on.ensures.begin;
  event = c.stretches_go_on.ensures.event;
  turn = c.slot_goes_on.ensures.turn;
  ends = c.slots.ensures;
  phases = c.nets.ensures.begin;
  runs = c.first_run_goes_on.ensures;
})
