-- The laws are proved in `Ends` and `Pending`.
use Rattle.between_slots.proofs.Ends.{states_rest, states_have_widths, resting_states_are_told}
use Rattle.between_slots.proofs.Pending.{slots_take_no_time, updates_pend}
use Rattle.between_slots.proofs.updates_pend.Goals as goal

pub returns-clause-rest : goal.returns-clause-rest
returns-clause-rest c = states_rest (record {
  begin = c.slot_goes_on.ensures.begin;
  event = c.stretches_go_on.ensures.event;
  turn = c.slot_goes_on.ensures.turn;
  ends = c.slots.ensures;
  phases = c.nets.ensures.begin;
  runs = c.first_run_goes_on.ensures;
})

pub returns-clause-widths : goal.returns-clause-widths
returns-clause-widths c = states_have_widths (record {
  begin = c.slot_goes_on.ensures.begin;
  event = c.stretches_go_on.ensures.event;
  turn = c.slot_goes_on.ensures.turn;
  ends = c.slots.ensures;
  phases = c.nets.ensures.begin;
  runs = c.first_run_goes_on.ensures;
})

pub returns-clause-told : goal.returns-clause-told
returns-clause-told c = resting_states_are_told

pub returns-clause-time : goal.returns-clause-time
returns-clause-time c = slots_take_no_time (record {
  loop = record {
    begin = c.slot_goes_on.ensures.begin;
    event = c.stretches_go_on.ensures.event;
    turn = c.slot_goes_on.ensures.turn;
    ends = c.slots.ensures;
    phases = c.nets.ensures.begin;
    runs = c.first_run_goes_on.ensures;
  };
  appends = c.shared_runs.ensures.appends;
  time = c.own_runs.ensures.time;
})

pub returns-clause-updates : goal.returns-clause-updates
returns-clause-updates c = updates_pend (record {
  loop = record {
    begin = c.slot_goes_on.ensures.begin;
    event = c.stretches_go_on.ensures.event;
    turn = c.slot_goes_on.ensures.turn;
    ends = c.slots.ensures;
    phases = c.nets.ensures.begin;
    runs = c.first_run_goes_on.ensures;
  };
  appends = c.shared_runs.ensures.appends;
  time = c.own_runs.ensures.time;
})
