-- The slots of a window that begin by a time (slots by IEEE 1364-2001, clause 5).
use Rattle.std.specs.Prelude.{◌≡◌, ℕ, suc, ◌+◌, ◌<◌, ◌≤◌, Some, slice_get}
use Rattle.v_design.specs.Designs.{FlatDesign, TestPlan}
use Rattle.v_design.specs.Runs.{FirstSlot}
use Rattle.copy_laws.specs.Windows.{good_slots}

-- the last of so many slots of the good first run, if there is one, begins by a time
abbrev pub BeginsBy : FlatDesign → TestPlan → ℕ → ℕ → Type 0
BeginsBy design plan number time = (last : ℕ) (one : FirstSlot) → number ≡ suc last → slice_get (good_slots design plan) last ≡ Some one → one.begins.time ≤ time

-- so many slots of a window begin by a time, and the next one, if the window has more, begins after it
pub record ComesTo (design : FlatDesign) (plan : TestPlan) (before through time slot : ℕ) : Type 0 where
  pub fits : before + slot ≤ through
  pub begun : BeginsBy design plan (before + slot) time
  pub next : (one : FirstSlot) → before + slot < through → slice_get (good_slots design plan) (before + slot) ≡ Some one → time < one.begins.time
