-- What the faults of a shard are graded beside in a window (strobes by the plan; slots by IEEE 1364-2001, clause 5).
use Rattle.std.specs.Prelude.{ℕ, ◌+◌, List, drop, length}
use Rattle.v_design.specs.Designs.{FlatDesign, TestPlan}
use Rattle.good_trace.specs.Slots.{end_of}
use Rattle.window_strobes.specs.Passed.{HasPassed}
use Rattle.window_strobes.specs.Leading.{LeadsTo}
use Rattle.window_strobes.specs.Seen.{AreSeenIf}
use Rattle.window_strobes.specs.declared.strobes.WindowStrobes.{WindowStrobes}

-- how many of the plan's strobes come up to the time to which faults are graded in the window, and those that are left behind it
abbrev pub passed_behind : WindowStrobes → ℕ
passed_behind strobes = strobes.passed + length strobes.samples.items

abbrev pub strobes_left : TestPlan → WindowStrobes → List ℕ
strobes_left plan strobes = drop (passed_behind strobes) plan.strobes

-- the good machine's samples at the plan's strobes from the window's beginning on up to the time to which faults are graded in it, and that time
pub record AreStrobesOf (design : FlatDesign) (plan : TestPlan) (before through : ℕ) (strobes : WindowStrobes) : Type 0 where
  pub has_passed : HasPassed design plan before strobes.passed
  pub seen : AreSeenIf design plan strobes.until (drop strobes.passed plan.strobes) strobes.samples.items
  pub leads : LeadsTo design plan before through (end_of strobes.ending) strobes.until
