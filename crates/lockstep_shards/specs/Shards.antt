-- A fault of a shard from slot to slot in lockstep with the good machine (strobes by the plan; slots by IEEE 1364-2001, clause 5).
use Rattle.std.specs.Prelude.{◌≡◌, ℕ, suc, ◌<◌, ◌≤◌, true, false, List, [], ◌∷◌, ◌++◌, length, take, drop, Option, Some, None, is_some, slice_get}
use Rattle.four_value.specs.declared.logic.Bit.{Bit}
use Rattle.vf_base.specs.Base.{WatchedBit}
use Rattle.vf_base.specs.Lists.{AllHold}
use Rattle.vf_base.specs.declared.finding.End.{End}
use Rattle.v_design.specs.Designs.{FlatDesign, StuckAt, TestPlan, good_machine, faulty_machine}
use Rattle.v_design.specs.Grades.{Detected, Judged, samples}
use Rattle.v_design.specs.Plain.{grade_of}
use Rattle.v_design.specs.Runs.{FirstSlot}
use Rattle.v_design.specs.States.{LaterUpdate}
use Rattle.v_design.specs.WellFormed.{IsPlan, KeepsRules}
use Rattle.between_slots.specs.Updates.{updates_through}
use Rattle.copy_laws.specs.Differences.{Differences, own_of}
use Rattle.copy_laws.specs.Windows.{IsCopyAt, good_slots, state_at, time_at}
use Rattle.copy_state.specs.Kept.{CopyKept}
use Rattle.copy_between.specs.Beside.{KeepsWithin}
use Rattle.copy_overlay.specs.Faulty.{faulty_values}
use Rattle.grade_laws.specs.Ahead.{StopsAfter}
use Rattle.grade_laws.specs.Grading.{good_stop, faulty_stop}
use Rattle.lockstep_laws.specs.Lockstep.{due_times}
use Rattle.lockstep_copies.specs.Copies.{IsCopyInLockstep}
use Rattle.fault_strobes.specs.Said.{Said, ends_there, said_at}
use Rattle.fault_strobes.specs.Strobes.{EndsWith, StrobesGoOn}
use Rattle.quiet_index.specs.PassOver.{SlotsLeaveAlone}
use Rattle.copy_pass.specs.window_strobes.Passed.{HasPassed}
use Rattle.copy_pass.specs.copy_window.Copies.{differences_in}
use Rattle.copy_pass.specs.copy_window.ShardFaults.{IsShardFault, said_by}
use Rattle.copy_pass.specs.copy_window.declared.fault.ShardFault.{ShardFault}

-- a fault of a shard behind a slot of the good first run of a number, at its time; more slots come, so many strobes passed, and nothing was found of it so far
pub record IsOpenBehind (design : FlatDesign) (plan : TestPlan) (fault : StuckAt) (number time passed : ℕ) (own : ShardFault) : Type 0 where
  pub stands : IsShardFault design plan (suc number) passed own
  pub listed : slice_get plan.faults own.copy.fault ≡ Some fault
  pub none : own.end ≡ None
  pub more : suc number < length (good_slots design plan)
  pub time_is : time_at design plan (suc number) ≡ Some time
  pub has_passed : HasPassed design plan (suc number) passed

-- own updates are due at the times of those that the good machine has pending after so many slots
abbrev pub AreDueAlike : FlatDesign → TestPlan → ℕ → List (ℕ × List LaterUpdate) → Type 0
AreDueAlike design plan number updates =
    (process : ℕ) (own : List LaterUpdate) → own_of updates process ≡ Some own → due_times own ≡ due_times (updates_through design plan number process)

-- up to a strobe neither machine stopped, and at it the good machine's state with a copy's differences is the faulty machine's
pub record StandsAtStrobe (design : FlatDesign) (plan : TestPlan) (fault : StuckAt) (d : Differences) (strobe : ℕ) : Type 0 where
  pub good_on : StopsAfter strobe (good_stop design plan)
  pub own_on : StopsAfter strobe (faulty_stop design plan fault)
  pub copy : IsCopyAt design plan fault strobe d

-- the watched bits of both machines at a strobe: of the good one's values, and of these with a copy's own over them
pub record AreSeenAt (design : FlatDesign) (plan : TestPlan) (d : Differences) (strobe : ℕ) (good faulty : List Bit) : Type 0 where
  pub good_is : good ≡ samples plan.watched (state_at (good_machine design) plan.end strobe).values
  pub faulty_is : faulty ≡ samples plan.watched (faulty_values (state_at (good_machine design) plan.end strobe).values d.values)

-- a copy was passed from a time on over the slots of the good first run up to one of a number: it is in lockstep behind it, and stands at each strobe up to there
pub record HasPassedOver (design : FlatDesign) (plan : TestPlan) (fault : StuckAt) (d : Differences) (time last : ℕ) (slot : FirstSlot) : Type 0 where
  pub lockstep : IsCopyInLockstep design plan fault last slot.begins.time d
  pub strobes : (strobe : ℕ) → time ≤ strobe → strobe ≤ slot.begins.time → StandsAtStrobe design plan fault d strobe
  pub on_time : (state_at (faulty_machine design fault) plan.end slot.begins.time).time ≡ slot.begins.time

pub record ShardsGoInLockstep : Type 0 where
  -- a fault is in lockstep where its copy keeps no process's state, and updates that are due at the times of the good ones
  pub enters : (design : FlatDesign) (plan : TestPlan) (fault : StuckAt) (number time passed : ℕ) (own : ShardFault) → KeepsRules design → IsOpenBehind design plan fault number time passed own →
      own.copy.states ≡ [] → AreDueAlike design plan (suc number) own.copy.updates → IsCopyInLockstep design plan fault number time (differences_in design own.copy)
  -- its grading goes on there, with the strobes so far
  pub grading : (design : FlatDesign) (plan : TestPlan) (fault : StuckAt) (number time passed : ℕ) (own : ShardFault) → KeepsRules design → IsOpenBehind design plan fault number time passed own →
      StrobesGoOn design plan fault (Some time) (take passed plan.strobes) (drop passed plan.strobes) (said_by own)
  -- a copy in lockstep stands at each strobe before the next slot
  pub strobes : (design : FlatDesign) (plan : TestPlan) (fault : StuckAt) (number time : ℕ) (d : Differences) (strobe : ℕ) → IsCopyInLockstep design plan fault number time d → time ≤ strobe →
      ((next : FirstSlot) → slice_get (good_slots design plan) (suc number) ≡ Some next → strobe < next.begins.time) → StopsAfter strobe (good_stop design plan) →
      StandsAtStrobe design plan fault d strobe
  -- the next strobe, which shows these bits, either doesn't end the grading, and it goes on
  pub sees : (design : FlatDesign) (plan : TestPlan) (fault : StuckAt) (now : Option ℕ) (passed next : List ℕ) (d : Differences) (strobe : ℕ) (said new : Said) (good faulty : List Bit) →
      KeepsRules design → IsPlan plan → StrobesGoOn design plan fault now passed (strobe ∷ next) said → StandsAtStrobe design plan fault d strobe → AreSeenAt design plan d strobe good faulty →
      ends_there good faulty said ≡ false → new ≡ said_at strobe good faulty said → StrobesGoOn design plan fault (Some strobe) (passed ++ strobe ∷ []) next new
  -- or it does
  pub finds : (design : FlatDesign) (plan : TestPlan) (fault : StuckAt) (now : Option ℕ) (passed next : List ℕ) (d : Differences) (strobe : ℕ) (said new : Said)
      (good faulty : List Bit) → KeepsRules design → StrobesGoOn design plan fault now passed (strobe ∷ next) said → StandsAtStrobe design plan fault d strobe →
      AreSeenAt design plan d strobe good faulty → ends_there good faulty said ≡ true → new ≡ said_at strobe good faulty said →
      EndsWith design plan fault strobe (Judged (Detected strobe)) new
  -- strobes at which a copy stands that keeps no value of a watched object find nothing new
  pub unseen : (design : FlatDesign) (plan : TestPlan) (fault : StuckAt) (now : Option ℕ) (passed strobes later : List ℕ) (d : Differences) (said : Said) → KeepsRules design →
      IsPlan plan → AllHold (λ (w : WatchedBit). own_of d.values w.object ≡ None) plan.watched → AllHold (StandsAtStrobe design plan fault d) strobes →
      StrobesGoOn design plan fault now passed (strobes ++ later) said → (then : Option ℕ) × StrobesGoOn design plan fault then (passed ++ strobes) later said
  -- behind a slot a copy in lockstep is that of a fault of a shard again
  pub leaves : (design : FlatDesign) (plan : TestPlan) (fault : StuckAt) (number time count : ℕ) (now : Option ℕ) (own : ShardFault) →
      IsCopyInLockstep design plan fault number time (differences_in design own.copy) → slice_get plan.faults own.copy.fault ≡ Some fault → own.end ≡ None →
      suc number < length (good_slots design plan) → time_at design plan (suc number) ≡ Some time → HasPassed design plan (suc number) count →
      StrobesGoOn design plan fault now (take count plan.strobes) (drop count plan.strobes) (said_by own) → (state_at (faulty_machine design fault) plan.end time).time ≡ own.time →
      IsShardFault design plan (suc number) count own
  -- so is one whose grading ended by then
  pub found : (design : FlatDesign) (plan : TestPlan) (fault : StuckAt) (number time count ended : ℕ) (end : End) (own : ShardFault) → KeepsRules design →
      EndsWith design plan fault ended (grade_of end) (said_by own) → ended ≤ time → slice_get plan.faults own.copy.fault ≡ Some fault → own.end ≡ Some end →
      KeepsWithin (length design.objects) (length design.processes) own.copy → suc number < length (good_slots design plan) → time_at design plan (suc number) ≡ Some time →
      IsShardFault design plan (suc number) count own
  -- and stays so behind all later slots
  pub stays : (design : FlatDesign) (plan : TestPlan) (gone later passed count : ℕ) (own : ShardFault) → KeepsRules design → IsShardFault design plan gone passed own → is_some own.end ≡ true →
      gone ≤ later → IsShardFault design plan later count own
  -- behind a slot through which both machines went in lockstep the faulty one is at its time
  pub on_time : (design : FlatDesign) (plan : TestPlan) (fault : StuckAt) (number time : ℕ) (d new : Differences) (slot : FirstSlot) → IsCopyInLockstep design plan fault number time d →
      slice_get (good_slots design plan) (suc number) ≡ Some slot → IsCopyInLockstep design plan fault (suc number) slot.begins.time new →
      (state_at (faulty_machine design fault) plan.end slot.begins.time).time ≡ slot.begins.time
  -- slots that leave a copy alone that keeps values alone are passed over, where both machines are at one time
  pub passes : (design : FlatDesign) (plan : TestPlan) (fault : StuckAt) (number time last : ℕ) (d : Differences) (slot : FirstSlot) → (c : IsCopyInLockstep design plan fault number time d) →
      d.updates ≡ [] → (state_at (faulty_machine design fault) plan.end time).time ≡ c.last.begins.time → number < last → SlotsLeaveAlone design plan fault d (suc number) (suc last) →
      time ≤ slot.begins.time → slice_get (good_slots design plan) last ≡ Some slot → suc last < length (good_slots design plan) → HasPassedOver design plan fault d time last slot
  -- a copy in lockstep keeps no process's state, and nothing but of the design's objects and processes
  pub no_states : (design : FlatDesign) (plan : TestPlan) (fault : StuckAt) (number time : ℕ) (kept : CopyKept) → IsCopyInLockstep design plan fault number time (differences_in design kept) →
      kept.states ≡ []
  pub keeps : (design : FlatDesign) (plan : TestPlan) (fault : StuckAt) (number time : ℕ) (kept : CopyKept) → IsCopyInLockstep design plan fault number time (differences_in design kept) →
      KeepsWithin (length design.objects) (length design.processes) kept
