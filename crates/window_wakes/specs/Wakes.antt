-- Whose waits the events of a window end (events by IEEE 1364-2001, clause 5; waits by clause 9.7).
use Rattle.std.specs.Prelude.{◌≡◌, ℕ, Bool, false, ◌&&◌, List, [], Some, None, nat_eq, nat_le, nat_lt, slice_get}
use Rattle.std.specs.List.{list_any}
use Rattle.std.specs.List.Sorted.{IsNonDecreasingBy}
use Rattle.vf_base.specs.Base.{process_number}
use Rattle.v_design.specs.Designs.{FlatDesign, Machine, TestPlan, good_machine}
use Rattle.copy_laws.specs.QuietPhases.{ends_its_wait}
use Rattle.trace_window.specs.Moments.{Seen, window_events}
use Rattle.window_wakes.specs.declared.wake.Wake.{Wake}

-- the event of a moment ends the wait of a process
pub record WakeTold : Type 0 where
  pub moment : ℕ
  pub process : ℕ

-- what the code's type says
abbrev pub wake_of : Wake → WakeTold
wake_of wake = record { moment = wake.moment; process = process_number wake.process }

abbrev pub told_moment : WakeTold → ℕ
told_moment wake = wake.moment

-- whether it is told of the event of a moment that it ends the wait of a process
abbrev pub is_told : ℕ → ℕ → WakeTold → Bool
is_told moment process wake = nat_eq wake.moment moment && nat_eq wake.process process

abbrev pub has_wake : List WakeTold → ℕ → ℕ → Bool
has_wake wakes moment process = list_any (is_told moment process) wakes

-- whether the event of a number ends the wait of a process, if there is one
abbrev pub woken_at : Machine → List Seen → ℕ → ℕ → Bool
woken_at machine seen process moment = elim (slice_get seen moment) [ None ↦ false | Some event ↦ ends_its_wait machine event.before event.event process ]

-- what contracts see: how many slots of the good first run stand before, and before the end; and whose waits their events end
pub record WakesKept : Type 0 where
  pub before : ℕ
  pub through : ℕ
  pub wakes : List WakeTold

-- of no slot behind so many
abbrev pub no_wakes : ℕ → WakesKept
no_wakes number = record { before = number; through = number; wakes = [] }

-- it is told of just the events of the slots that end waits, in their order
pub record AreWakesOf (design : FlatDesign) (plan : TestPlan) (kept : WakesKept) : Type 0 where
  pub ascend : IsNonDecreasingBy told_moment kept.wakes
  pub each : (moment process : ℕ) → has_wake kept.wakes moment process ≡ woken_at (good_machine design) (window_events design plan kept.before kept.through) process moment

-- the moment of a wake of the code's type
abbrev pub wake_moment : Wake → ℕ
wake_moment wake = wake.moment

-- whether a wake comes from a moment on and before another
abbrev pub comes_within : ℕ → ℕ → WakeTold → Bool
comes_within first limit wake = nat_le first wake.moment && nat_lt wake.moment limit
