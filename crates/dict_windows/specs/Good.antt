-- What the plan's strobes saw of the good machine behind so many slots of its first run (strobes by the plan; slots by IEEE 1364-2001, clause 5).
use Rattle.std.specs.Prelude.{◌≡◌, ℕ, Bool, true, false, List, ◌++◌, length, is_some}
use Rattle.vf_base.specs.Lists.{AllHold}
use Rattle.v_design.specs.Designs.{FlatDesign, TestPlan}
use Rattle.v_design.specs.Grades.{Sample}
use Rattle.copy_laws.specs.Windows.{WindowEnd, IsOpen, IsThrough, IsRaced, good_slots}
use Rattle.grade_laws.specs.Ahead.{StopsAfter}
use Rattle.grade_laws.specs.Grading.{StopsBy, good_seen, good_stop, times}
use Rattle.kept_samples.specs.Kept.{samples_kept}
use Rattle.kept_shard.specs.window_strobes.Passed.{HasPassed}
use Rattle.dict_windows.specs.declared.good.GoodSeen.{GoodSeen}

-- whether a window that ends so ends with the good machine's race
abbrev pub raced_by : WindowEnd → Bool
raced_by IsOpen = false
raced_by IsThrough = false
raced_by (IsRaced pair) = true

-- The plan's first strobes were seen, each before the good machine's first stop; behind so many slots these are the ones that come up to the time to which the slots lead. Once these are all
-- slots, the strobes that are left come not before that stop, and it is known whether there is one.
pub record IsSeenBehind (design : FlatDesign) (plan : TestPlan) (gone : ℕ) (seen : GoodSeen) : Type 0 where
  pub passed : HasPassed design plan gone (length seen.samples.items)
  pub left : List ℕ
  pub strobes : plan.strobes ≡ times (samples_kept seen.samples.items) ++ left
  pub bits : AllHold (λ (sample : Sample). sample.bits ≡ good_seen design plan sample.time) (samples_kept seen.samples.items)
  pub before : AllHold (λ (sample : Sample). StopsAfter sample.time (good_stop design plan)) (samples_kept seen.samples.items)
  pub whole : length (good_slots design plan) ≡ gone → AllHold (λ strobe. StopsBy strobe (good_stop design plan)) left × (seen.raced ≡ is_some (good_stop design plan))
