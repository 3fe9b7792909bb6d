-- The law is proved in `Passing`.
use Rattle.quiet_slots.proofs.Passing.{quiet_slots_pass}
use Rattle.quiet_slots.proofs.quiet_slots_pass.Goals as goal

pub returns : goal.returns
returns c = quiet_slots_pass (record {
  walk = record {
    first = c.untouched.ensures.first;
    pass = c.untouched.ensures.pass;
    free = c.free_events.ensures.pass;
    accesses = c.quiet_phases.ensures.accesses;
    does = c.quiet_phases.ensures.alike;
    logs = c.quiet_phases.ensures.logs;
    beside = c.moves.ensures.beside;
    jump = c.moves.ensures.jump;
    turns = c.turns.ensures;
    nodes_rest = c.nodes_rest.ensures;
    begin = c.slot_goes_on.ensures.begin;
    event = c.stretches_go_on.ensures.event;
    turn = c.slot_goes_on.ensures.turn;
    quiet = c.slot_ends.ensures.quiet;
  };
  slots = c.first_slots_stand.ensures;
  follow = c.first_run_goes_on.ensures;
  runs = c.runs_go_on.ensures;
  stand = c.runs_stand.ensures;
  begins = c.rests.ensures.begins;
  ends = c.rests.ensures.ends;
  times = c.own_runs.ensures.time;
})
