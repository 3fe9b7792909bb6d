use Rattle.std.proofs.Common.{◌≡◌, map, take}
use Rattle.trace_window.specs.Occurring.{below}
use Rattle.trace_window.specs.Tables.{at_moment, at_places}
use Rattle.trace_window.proofs.changes.list_changes.Given as goal

abbrev pub invariant-changes : goal.invariant-changes
invariant-changes l = record {
  moments : l.by_moment.items ≡ below l.objects (map at_moment (take l.place l.changes));
  places : l.by_place.items ≡ below l.objects (at_places 0 (take l.place l.changes));
}
