use Rattle.std.proofs.Common.{arith}
use Rattle.window_runs.proofs.index.RunIndex.new.Goals as goal

pub returns : goal.returns
returns c = record {
  rise = λ i j d order low. absurd (omega (arith, low));
  phases_are = c.in_ok-phases.ensures;
  places_are = c.in_ok-places.ensures;
  latest_are = record { count = omega arith; bounds = λ place earlier run other order here there same. cc };
}
