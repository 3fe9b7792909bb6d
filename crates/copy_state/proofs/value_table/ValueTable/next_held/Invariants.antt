-- None before the place.
use Rattle.std.proofs.Common.{◌≡◌, ◌<◌, ◌≤◌, ℕ, get_or}
use Rattle.std.specs.Prelude.{None}
use Rattle.copy_state.proofs.value_table.ValueTable.next_held.Given as goal

abbrev pub invariant-places : goal.invariant-places
invariant-places l = (k : ℕ) → l.from ≤ k → k < l.place → get_or l.self-inside.values.items k None ≡ None
