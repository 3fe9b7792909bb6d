use Rattle.std.proofs.Common.{length}
use Rattle.key_index.specs.Walks.{places_left}
use Rattle.key_index.proofs.Grouping.{AreFound}
use Rattle.key_index.proofs.grouped.all_items.Given as goal

abbrev pub invariant-places : goal.invariant-places
invariant-places g l = AreFound l.items l.key l.found.items l.at

abbrev pub decreases-places : goal.decreases-places
decreases-places g l = places_left (length l.items) l.at
