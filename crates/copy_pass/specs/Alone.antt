-- Slots of a window whose events leave a copy alone (slots by IEEE 1364-2001, clause 5).
use Rattle.std.specs.Prelude.{◌≡◌, ℕ, ◌-◌, []}
use Rattle.v_design.specs.Designs.{FlatDesign, StuckAt, TestPlan}
use Rattle.copy_laws.specs.Differences.{Differences}
use Rattle.copy_laws.specs.Windows.{WindowEnd, IsOpen, IsThrough, IsRaced}
use Rattle.copy_state.specs.Kept.{CopyKept}
use Rattle.quiet_index.specs.PassOver.{SlotsLeaveAlone}

-- the differences for which a copy stands that keeps values alone
abbrev pub values_alone : CopyKept → Differences
values_alone kept = record { values = kept.values; activities = []; updates = [] }

-- a copy keeps values alone, and each event of the slots of the good first run from one number to before another leaves it alone
pub record IsAlone (design : FlatDesign) (plan : TestPlan) (fault : StuckAt) (before ends : ℕ) (kept : CopyKept) : Type 0 where
  pub states : kept.states ≡ []
  pub updates : kept.updates ≡ []
  pub alone : SlotsLeaveAlone design plan fault (values_alone kept) before ends

-- how many slots of a window of so many come before the good machine's race, if its last one has a race
abbrev pub fine_slots : WindowEnd → ℕ → ℕ
fine_slots IsOpen count = count
fine_slots IsThrough count = count
fine_slots (IsRaced pair) count = count - 1
