-- None of the slots so far is at that time.
use Rattle.std.proofs.Common.{◌≡◌, ℕ, ◌<◌}
use Rattle.std.specs.Prelude.{Some, slice_get}
use Rattle.good_trace.proofs.beside.WindowSlots.at.Given as goal

abbrev pub invariant-slots : goal.invariant-slots
invariant-slots l = (k time : ℕ) → k < l.slot → slice_get l.self.times.now k ≡ Some time → time ≡ l.time → ⊥
