-- The law is proved in `FirstSlots`.
use Rattle.quiet_slots.proofs.FirstSlots.{first_slots_stand}
use Rattle.quiet_slots.proofs.first_slots_stand.Goals as goal

pub returns : goal.returns
returns c = first_slots_stand (record {
  begin = c.slot_goes_on.ensures.begin;
  event = c.stretches_go_on.ensures.event;
  turn = c.slot_goes_on.ensures.turn;
  ends = c.slots.ensures;
  phases = c.nets.ensures.begin;
  runs = c.first_run_goes_on.ensures;
})
