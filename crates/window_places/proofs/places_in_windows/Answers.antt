-- The law is proved in `Told`.
use Rattle.window_places.proofs.Told.{places_in_windows}
use Rattle.window_places.proofs.places_in_windows.Goals as goal

pub returns : goal.returns
returns c = places_in_windows
