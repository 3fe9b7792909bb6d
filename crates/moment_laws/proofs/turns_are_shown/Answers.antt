-- Which turn it is.
use Rattle.moment_laws.proofs.NextPhase.{Resumes, Activates, turn-taken, turn-fits}
use Rattle.moment_laws.proofs.turns_are_shown.Goals as goal

pub returns : goal.returns
returns c = record {
  resumes = λ design plan codes place next later old new are shown none later_is same made.
      turn-taken c.places_are_told.ensures c.places_in_windows.ensures c.phases_follow.ensures.phases design plan codes place next later old new are shown none later_is same (Resumes made);
  activates = λ design plan codes place next later old new are shown none later_is same made.
      turn-taken c.places_are_told.ensures c.places_in_windows.ensures c.phases_follow.ensures.phases design plan codes place next later old new are shown none later_is same (Activates made);
  fits = turn-fits;
}
