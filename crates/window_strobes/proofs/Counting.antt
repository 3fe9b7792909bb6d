-- The slots of a window that begin by a time, one after the other (slots by IEEE 1364-2001, clause 5).
use Rattle.std.proofs.Common.{◌≡◌, ℕ, ◌+◌, ◌<◌, ◌≤◌, ap, ◌∙◌, arith}
use Rattle.std.specs.Prelude.{Some, slice_get}
use Rattle.v_design.specs.Designs.{FlatDesign, TestPlan}
use Rattle.v_design.specs.Runs.{FirstSlot}
use Rattle.copy_laws.specs.Windows.{good_slots}
use Rattle.window_strobes.specs.Slots.{BeginsBy, ComesTo}

-- a slot of the good first run begins at a time
pub record BeginsAt (design : FlatDesign) (plan : TestPlan) (number time : ℕ) : Type 0 where
  pub is : (one : FirstSlot) → slice_get (good_slots design plan) number ≡ Some one → time ≡ one.begins.time

module _ (design : FlatDesign) (plan : TestPlan) (before through time slot : ℕ) (begun : BeginsBy design plan (before + slot) time) where
  -- the next slot begins after the time
  pub comes-here : (begins : ℕ) → before + slot ≤ through → BeginsAt design plan (before + slot) begins → time < begins → ComesTo design plan before through time slot
  comes-here begins fits at after = record {
    fits = fits;
    begun = begun;
    next = λ one inner there. (let is : begins ≡ one.begins.time = at.is one there in omega (arith, after, is));
  }

  -- it begins by the time
  pub begun-more : (begins : ℕ) → BeginsAt design plan (before + slot) begins → begins ≤ time → BeginsBy design plan (before + (slot + 1)) time
  begun-more begins at by last one e here =
      let same : before + slot ≡ last = omega (arith, e) in
      let is : begins ≡ one.begins.time = at.is one (ap (slice_get (good_slots design plan)) same ∙ here) in
      omega (arith, by, is)

  -- the window has no more slots
  pub comes-all : before + slot ≡ through → ComesTo design plan before through time slot
  comes-all all = record { fits = omega (arith, all); begun = begun; next = λ one inner there. absurd (omega (arith, inner, all)) }

-- so many slots begin by a later time too
pub begins-later : (design : FlatDesign) (plan : TestPlan) (number time later : ℕ) → time ≤ later → BeginsBy design plan number time → BeginsBy design plan number later
begins-later design plan number time later low begun last one e here = (let by : one.begins.time ≤ time = begun last one e here in omega (arith, by, low))
