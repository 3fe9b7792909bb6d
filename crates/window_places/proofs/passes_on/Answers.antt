-- The law is proved in `PassedOn`.
use Rattle.window_places.proofs.PassedOn.{passes_on}
use Rattle.window_places.proofs.passes_on.Goals as goal

pub returns : goal.returns
returns c = passes_on (record {
  goes = c.slots_in_lockstep.ensures;
  none = c.no_marks.ensures;
  phases = c.phases_follow.ensures.phases;
  rest = c.blocks_are_told.ensures.end;
  places = c.places_in_windows.ensures;
})
