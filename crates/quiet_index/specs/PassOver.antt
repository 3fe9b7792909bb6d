-- Slots over which a copy that keeps values alone is passed (slots by IEEE 1364-2001, clause 5).
use Rattle.std.specs.Prelude.{◌≡◌, ℕ, suc, ◌<◌, ◌≤◌, [], Some, slice_get}
use Rattle.vf_base.specs.Lists.{AllHold}
use Rattle.v_design.specs.Designs.{FlatDesign, StuckAt, TestPlan, good_machine}
use Rattle.v_design.specs.Runs.{FirstSlot}
use Rattle.v_design.specs.WellFormed.{KeepsRules}
use Rattle.copy_laws.specs.Differences.{Differences}
use Rattle.copy_laws.specs.Windows.{IsCopyAt, good_slots}
use Rattle.grade_laws.specs.Ahead.{StopsAfter}
use Rattle.grade_laws.specs.Grading.{good_stop, faulty_stop}
use Rattle.trace_window.specs.Moments.{slot_seen}
use Rattle.quiet_slots.specs.Quiet.{GoesWithGood}
use Rattle.quiet_index.specs.Indexed.{LeavesAlone}

-- each event of the slots of the good first run from one number to before another leaves a copy alone
abbrev pub SlotsLeaveAlone : FlatDesign → TestPlan → StuckAt → Differences → ℕ → ℕ → Type 0
SlotsLeaveAlone design plan fault d begins ends =
    (number : ℕ) (slot : FirstSlot) → slice_get (good_slots design plan) number ≡ Some slot → begins ≤ number → number < ends →
    AllHold (LeavesAlone design fault d) (slot_seen (good_machine design) slot)

-- a copy at a time behind a slot of the good machine and before a later time, up to which only such slots begin
pub record CanPassOver (design : FlatDesign) (plan : TestPlan) (fault : StuckAt) (d : Differences) (last ends from until : ℕ) : Type 0 where
  pub rules : KeepsRules design
  pub slot : FirstSlot
  pub stands : slice_get (good_slots design plan) last ≡ Some slot
  pub behind : slot.begins.time ≤ from
  pub alone : SlotsLeaveAlone design plan fault d (suc last) ends
  pub before : (next : FirstSlot) → slice_get (good_slots design plan) ends ≡ Some next → until < next.begins.time
  pub low : from ≤ until
  pub by_end : until ≤ plan.end
  pub copy : IsCopyAt design plan fault from d
  pub activities : d.activities ≡ []
  pub updates : d.updates ≡ []
  pub good_on : StopsAfter until (good_stop design plan)
  pub own_on : StopsAfter from (faulty_stop design plan fault)

-- the faulty machine goes on with the good one up to that time, and its differences stay
abbrev pub CopiesPassOver : Type 0
CopiesPassOver =
    (design : FlatDesign) (plan : TestPlan) (fault : StuckAt) (d : Differences) (last ends from until : ℕ) → CanPassOver design plan fault d last ends from until →
    GoesWithGood design plan fault d from until
