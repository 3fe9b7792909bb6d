-- Two slots of the good first run, one after the other (slots by IEEE 1364-2001, clause 5).
use Rattle.std.proofs.Common.{◌≡◌, ℕ, zero, suc, ◌+◌, ◌-◌, ◌<◌, ◌≤◌, length, refl, ap, ◌∙◌, arith, inl, inr}
use Rattle.std.specs.Prelude.{Option, Some, None, slice_get}
use Rattle.std.proofs.lemmas.Option.{slice_get_cases, slice_get_within}
use Rattle.v_design.specs.Designs.{FlatDesign, TestPlan}
use Rattle.v_design.specs.Runs.{FirstSlot}
use Rattle.copy_laws.specs.Windows.{IsWindow, WindowEnd, good_slots, time_at}

-- so many slots are followed by one more, and the last of them is this
pub record IsBetween (design : FlatDesign) (plan : TestPlan) (at : ℕ) : Type 0 where
  pub number : ℕ
  pub last : FirstSlot
  pub next : FirstSlot
  pub at_is : at ≡ suc number
  pub here : slice_get (good_slots design plan) number ≡ Some last
  pub there : slice_get (good_slots design plan) (suc number) ≡ Some next

-- a window's slots are slots of the run
pub slots-within : (design : FlatDesign) (plan : TestPlan) (before through : ℕ) (ending : WindowEnd) → IsWindow design plan before through ending → through ≤ length (good_slots design plan)
slots-within design plan before zero ending window = omega arith
slots-within design plan before (suc last) ending window =
    let there : last < length (good_slots design plan) = slice_get_within (good_slots design plan) last window.last (window.stands last refl) in
    omega (arith, there)

pub between : (design : FlatDesign) (plan : TestPlan) (before through slots : ℕ) (ending : WindowEnd) → IsWindow design plan before through ending → 0 < slots → before + slots < through →
    IsBetween design plan (before + slots)
between design plan before through slots ending window some more =
    let all = slots-within design plan before through ending window in
    elim (slice_get_cases (good_slots design plan) (before + (slots - 1))).1 [
      | inl last ↦ elim (slice_get_cases (good_slots design plan) (suc (before + (slots - 1)))).1 [
        | inl next ↦ record {
          number = before + (slots - 1);
          last = last.0;
          next = next.0;
          at_is = omega (arith, some);
          here = last.2;
          there = next.2;
        }
        | inr past ↦ absurd (omega (arith, past.0, all, some, more))
      ]
      | inr past ↦ absurd (omega (arith, past.0, all, some, more))
    ]

-- the time to which so many slots lead, by the next one and the last one
abbrev pub time-by : TestPlan → Option FirstSlot → Option FirstSlot → Option ℕ
time-by plan next last = elim next [ None ↦ Some plan.end | Some later ↦ elim last [ None ↦ Some plan.end | Some slot ↦ Some slot.begins.time ] ]

-- where another slot comes behind so many, these lead to the time of the last one
pub time-between : (design : FlatDesign) (plan : TestPlan) (at : ℕ) → (b : IsBetween design plan at) → time_at design plan at ≡ Some b.last.begins.time
time-between design plan at b = ap (time_at design plan) b.at_is ∙ (λ i. time-by plan (b.there i) (b.here i))
