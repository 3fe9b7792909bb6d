use Rattle.std.proofs.Common.{◌≡◌, ◌<◌, ℕ, [], length, get_or}
use Rattle.trace_window.specs.Writes.{latest}
use Rattle.good_trace.proofs.events.put_values_behind.Given as goal

abbrev pub invariant-objects : goal.invariant-objects
invariant-objects l = record {
  count : length l.later.items ≡ length l.values;
  values : (object : ℕ) → object < l.number → get_or l.later.items object [] ≡ latest (get_or l.values object []) object l.events.count l.events.changes.writes;
}
