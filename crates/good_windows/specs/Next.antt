-- What comes next of the good first run, by the slots that stand in windows so far (slots by IEEE 1364-2001, clause 5).
use Rattle.std.specs.Prelude.{◌≡◌, ◌≢◌, ◌⊎◌, ℕ, ◌+◌, ◌-◌, ◌<◌, Bool, true, false, ◌&&◌, ◌||◌, length, Some, nat_eq, nat_lt, slice_get, sum_by, take}
use Rattle.v_design.specs.Designs.{FlatDesign, TestPlan}
use Rattle.v_design.specs.Runs.{FirstSlot, is_hyper}
use Rattle.v_design.specs.Grades.{Hyper}
use Rattle.copy_laws.specs.Windows.{IsWindow, good_slots, window_steps}
use Rattle.grade_laws.specs.Grading.{good_stop}
use Rattle.machine.specs.Ticks.{process_steps}
use Rattle.good_trace.specs.Slots.{is_full}
use Rattle.good_trace.specs.Traces.{WindowKept}
use Rattle.good_windows.specs.declared.next.NextWindow.{NextWindow}
use Rattle.good_windows.specs.declared.next.NextWindow.TheVariants.{Window, Over, Loops}

-- what contracts see of the good machine's run: how many slots stand in windows so far, how many were run, and whether it may be used
pub record RunKept : Type 0 where
  pub gone : ℕ
  pub ran : ℕ
  pub usable : Bool

-- the process steps of so many slots of the good first run
abbrev pub steps_of_slots : FlatDesign → TestPlan → ℕ → ℕ
steps_of_slots design plan number = sum_by process_steps (take number (good_slots design plan))

-- Windows

-- whether a window from one number of slots to another has all that it may have: the first one has one slot, through which faults are run whole; any other has so many slots or steps
abbrev pub is_full_at : FlatDesign → TestPlan → ℕ → ℕ → Bool
is_full_at design plan begins ends = (nat_lt 0 ends && nat_eq begins 0) || is_full (ends - begins) (window_steps design plan begins ends)

-- behind so many slots of the good first run there is none, or one that is hyperactive, which no window has
abbrev pub EndsWindows : FlatDesign → TestPlan → ℕ → Type 0
EndsWindows design plan number = (slot : FirstSlot) → slice_get (good_slots design plan) number ≡ Some slot → is_hyper slot ≡ true

-- the window behind so many slots: it ends with the first slot that fills it, or where no further slot is one of a window
pub record IsNextWindow (design : FlatDesign) (plan : TestPlan) (gone : ℕ) (window : WindowKept) : Type 0 where
  pub before_is : window.before ≡ gone
  pub window_is : IsWindow design plan window.before window.through window.ending
  pub not_full_before : (number : ℕ) → gone < number → number < window.through → is_full_at design plan gone number ≡ false
  pub ends_where : (is_full_at design plan gone window.through ≡ true) ⊎ EndsWindows design plan window.through

-- The end

-- all slots of the good first run stand in windows, and it has no loop
pub record AllStand (design : FlatDesign) (plan : TestPlan) (gone : ℕ) : Type 0 where
  pub all : length (good_slots design plan) ≡ gone
  pub no_loop : (time : ℕ) → good_stop design plan ≢ Some (record { time = time; outcome = Hyper })

-- the good first run's first stop is a hyperactive slot at a time, and all slots before it stand in windows
pub record LoopsBehind (design : FlatDesign) (plan : TestPlan) (gone time : ℕ) : Type 0 where
  pub all_before : length (good_slots design plan) ≡ gone + 1
  pub stops : good_stop design plan ≡ Some (record { time = time; outcome = Hyper })

module _ {N : Type 0} where
  -- so many slots stood in windows before, and so many stand there now
  abbrev pub GivesNext : FlatDesign → TestPlan → ℕ → NextWindow N → ℕ → Type 0
  GivesNext design plan gone (Window window) now = IsNextWindow design plan gone window × (now ≡ window.through)
  GivesNext design plan gone Over now = AllStand design plan gone × (now ≡ gone)
  GivesNext design plan gone (Loops time) now = LoopsBehind design plan gone time × (now ≡ gone)
