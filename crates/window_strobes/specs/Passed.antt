-- The strobes of a plan that come up to the time of so many slots of the good first run (slots by IEEE 1364-2001, clause 5).
use Rattle.std.specs.Prelude.{◌≡◌, ℕ, ◌<◌, ◌≤◌, length, take, drop, Some}
use Rattle.vf_base.specs.Lists.{AllHold}
use Rattle.v_design.specs.Designs.{FlatDesign, TestPlan}
use Rattle.copy_laws.specs.Windows.{good_slots, time_at}

-- so many of the plan's strobes come up to the time to which so many slots of the good first run lead, as long as more slots come: none before the first slot
pub record HasPassed (design : FlatDesign) (plan : TestPlan) (gone passed : ℕ) : Type 0 where
  pub within : passed ≤ length plan.strobes
  pub none : gone ≡ 0 → passed ≡ 0
  pub early : (time : ℕ) → time_at design plan gone ≡ Some time → gone < length (good_slots design plan) → AllHold (λ strobe. strobe ≤ time) (take passed plan.strobes)
  pub later : (time : ℕ) → time_at design plan gone ≡ Some time → gone < length (good_slots design plan) → AllHold (λ strobe. time < strobe) (drop passed plan.strobes)
