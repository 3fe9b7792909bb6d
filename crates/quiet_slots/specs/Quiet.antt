-- Slots of the good first run in which nothing touches what differs in a faulty machine (slots by IEEE 1364-2001, clause 5).
use Rattle.std.specs.Prelude.{◌≡◌, ℕ, ◌<◌, ◌≤◌, true, Some, slice_get}
use Rattle.vf_base.specs.Lists.{AllHold}
use Rattle.v_design.specs.Designs.{FlatDesign, StuckAt, TestPlan, good_machine, faulty_machine}
use Rattle.v_design.specs.States.{State, ProcessState, TimeTurn, process_at}
use Rattle.v_design.specs.Accesses.{held_by}
use Rattle.v_design.specs.Runs.{FirstSlot}
use Rattle.v_design.specs.WellFormed.{KeepsRules}
use Rattle.copy_laws.specs.Differences.{Differences, apart_of}
use Rattle.copy_laws.specs.Touches.{EventIsFree}
use Rattle.copy_laws.specs.Turns.{SleepsPast}
use Rattle.copy_laws.specs.Windows.{IsCopyAt, good_slots, state_at}
use Rattle.grade_laws.specs.Ahead.{StopsAfter}
use Rattle.grade_laws.specs.Grading.{good_stop, faulty_stop}
use Rattle.trace_window.specs.Moments.{Seen, slot_seen}

-- an event of the good machine touches nothing that differs in a faulty machine whose kept processes wait as they do in a state
abbrev pub IsFreeBeside : FlatDesign → StuckAt → Differences → State → Seen → Type 0
IsFreeBeside design fault d faulty seen = EventIsFree design fault (apart_of d) seen.before faulty seen.event

-- a process sleeps past a time in both machines, and waits for the same net pieces
pub record SleepsInBoth (design : FlatDesign) (until process : ℕ) (good own : ProcessState) : Type 0 where
  pub good_sleeps : SleepsPast (TimeTurn until) good
  pub own_sleeps : SleepsPast (TimeTurn until) own
  pub same_waits : held_by design process good ≡ held_by design process own

-- after one time and up to another nothing touches what differs: no event of a slot of the good machine does, and each process that is kept sleeps on in both machines
pub record IsQuiet (design : FlatDesign) (plan : TestPlan) (fault : StuckAt) (d : Differences) (from until : ℕ) : Type 0 where
  pub free : (number : ℕ) (slot : FirstSlot) → slice_get (good_slots design plan) number ≡ Some slot → from < slot.begins.time → slot.begins.time ≤ until →
      AllHold (IsFreeBeside design fault d (state_at (faulty_machine design fault) plan.end from)) (slot_seen (good_machine design) slot)
  pub sleep : (process : ℕ) → (apart_of d).processes process ≡ true →
      SleepsInBoth design until process (process_at (state_at (good_machine design) plan.end from) process) (process_at (state_at (faulty_machine design fault) plan.end from) process)

-- both machines ran their last slots up to a time at one time
abbrev pub HaveOneTime : FlatDesign → TestPlan → StuckAt → ℕ → Type 0
HaveOneTime design plan fault time = (state_at (faulty_machine design fault) plan.end time).time ≡ (state_at (good_machine design) plan.end time).time

-- the faulty machine goes on to a time with the good one: it doesn't stop, all the time its state is the good one's with these differences, and it has no slots but at the good one's times
pub record GoesWithGood (design : FlatDesign) (plan : TestPlan) (fault : StuckAt) (d : Differences) (from until : ℕ) : Type 0 where
  pub goes_on : StopsAfter until (faulty_stop design plan fault)
  pub copy : (time : ℕ) → from ≤ time → time ≤ until → IsCopyAt design plan fault time d
  pub same_time : (time : ℕ) → from ≤ time → time ≤ until → HaveOneTime design plan fault from → HaveOneTime design plan fault time

-- The law

-- where neither machine stopped so far, the good one doesn't stop up to a later time, and nothing touches what differs, the slots of the good machine are those of the faulty one, all fine, and
-- leave the differences as they are: however many they are
abbrev pub QuietSlotsPass : Type 0
QuietSlotsPass =
    (design : FlatDesign) (plan : TestPlan) (fault : StuckAt) (d : Differences) (from until : ℕ) → KeepsRules design → IsCopyAt design plan fault from d →
    StopsAfter until (good_stop design plan) → StopsAfter from (faulty_stop design plan fault) → from ≤ until → until ≤ plan.end → IsQuiet design plan fault d from until →
    GoesWithGood design plan fault d from until
