-- The law is proved in `Starts`.
use Rattle.start_laws.proofs.Starts.{first_slot_goes_on}
use Rattle.start_laws.proofs.first_slot_goes_on.Goals as goal

pub returns : goal.returns
returns c =
    first_slot_goes_on
    (record {
      good = c.good_run_goes_on.ensures;
      runs = c.runs_go_on.ensures;
      stops = c.lockstep_stands.ensures.stops;
      same = c.nothing_becomes_same.ensures;
      notes = c.notes_go_on.ensures;
      windows = c.places_in_windows.ensures;
      slots = c.slots_in_lockstep.ensures;
      waits = c.only_texts_wait.ensures.runs;
      moments = c.moments_stand.ensures;
      follow = c.first_run_goes_on.ensures;
      begin = c.nets.ensures.begin;
      phases = c.phases_follow.ensures.phases;
      first = c.first_slots_stand.ensures;
      writes = c.writes_stay.ensures.stay;
      event_times = c.own_runs.ensures.time;
    })
