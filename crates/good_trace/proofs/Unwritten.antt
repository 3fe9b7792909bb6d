-- An object that a slot doesn't write holds after it what it held before.
use Rattle.std.proofs.Common.{◌≡◌, ℕ, ◌+◌, ◌<◌, ◌≤◌, cond, ◌&&◌, List, [], ◌∷◌, map, length, sym, ap, ◌∙◌, arith}
use Rattle.std.specs.Prelude.{nat_lt}
use Rattle.four_value.specs.Values.{LogicValue}
use Rattle.v_design.specs.Designs.{FlatDesign, TestPlan, good_machine}
use Rattle.v_design.specs.Assignments.{value_at}
use Rattle.v_design.specs.WellFormed.{KeepsRules}
use Rattle.between_slots.specs.Between.{state_through}
use Rattle.copy_laws.specs.Windows.{good_slots}
use Rattle.trace_window.specs.declared.change.Change.{Change}
use Rattle.trace_window.specs.Moments.{Seen, window_events, values_through}
use Rattle.trace_window.specs.ValueLaws.{window-follow, follow-count, values_before-end, values-are}
use Rattle.trace_window.specs.Writes.{written_of, latest}
use Rattle.good_trace.specs.SlotsTold.{AreWritesOf, IsUnwritten}
use Rattle.good_trace.proofs.Boundaries.{values-of}

-- writes of other objects leave a value
latest-other : (value : LogicValue) (object moment : ℕ) (changes : List Change) → IsUnwritten object changes → latest value object moment (map written_of changes) ≡ value
latest-other value object moment [] none = λ i. value
latest-other value object moment (c ∷ changes) none =
    ap (λ v. latest v object moment (map written_of changes)) (ap (λ b. cond (b && nat_lt c.moment moment) c.value value) none.0)
    ∙ latest-other value object moment changes none.1

-- so the slot leaves it
pub unwritten-stays : (design : FlatDesign) (plan : TestPlan) (before number first : ℕ) (values : List LogicValue) (changes : List Change) → KeepsRules design → before ≤ number →
    number + 1 ≤ length (good_slots design plan) → values ≡ values_through design plan before → length values ≡ length design.objects →
    AreWritesOf (good_machine design) (window_events design plan number (number + 1)) first (map written_of changes) → (object : ℕ) → object < length design.objects → IsUnwritten object changes →
    value_at (state_through design plan (number + 1)).values object ≡ value_at (state_through design plan number).values object
unwritten-stays design plan before number first values changes rules low fits values_are count told object within none =
    ap (λ v. value_at v object) (sym (values-of design plan (number + 1) fits))
    ∙ ap (λ v. value_at v object) (sym (values_before-end seen (values_through design plan (number + 1))))
    ∙ values-are (good_machine design) rules seen told.accesses told.listed (values_through design plan number) (values_through design plan (number + 1))
    (window-follow design plan number (number + 1) (omega arith) fits) object (omega (arith, within, count, long)) first (length seen)
    ∙ ap (λ w. latest (value_at (values_through design plan number) object) object (first + length seen) w) (sym told.are)
    ∙ latest-other (value_at (values_through design plan number) object) object (first + length seen) changes none
    ∙ ap (λ v. value_at v object) (values-of design plan number (omega (arith, fits)))
  where
    seen : List Seen
    seen = window_events design plan number (number + 1)

    long : length (values_through design plan number) ≡ length values
    long =
        follow-count (good_machine design) (values_through design plan before) (window_events design plan before number) (values_through design plan number)
        (window-follow design plan before number low (omega (arith, fits)))
        ∙ ap (λ (v : List LogicValue). length v) (sym values_are)
