use Rattle.std.proofs.Common.{◌≡◌, ◌++◌, take, drop}
use Rattle.vf_base.specs.Lists.{map_numbered}
use Rattle.window_runs.specs.Placed.{placed}
use Rattle.window_runs.proofs.index.put_at_places.Given as goal

abbrev pub invariant-occurrences : goal.invariant-occurrences
invariant-occurrences l = l.occurrences.items ≡ map_numbered placed 0 (take l.place l.initial.occurrences.items) ++ drop l.place l.initial.occurrences.items
