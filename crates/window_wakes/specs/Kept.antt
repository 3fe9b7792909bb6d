-- The wakes of slots of the good first run as they are gathered (slots by IEEE 1364-2001, clause 5).
use Rattle.std.specs.Prelude.{◌≡◌, ℕ, ◌^◌, ◌<◌, ◌≤◌, List, map, length}
use Rattle.v_design.specs.Designs.{FlatDesign, TestPlan, good_machine}
use Rattle.v_design.specs.WellFormed.{KeepsRules}
use Rattle.copy_laws.specs.Windows.{good_slots}
use Rattle.trace_window.specs.Moments.{window_events}
use Rattle.window_wakes.specs.declared.wake.Wake.{Wake}
use Rattle.window_wakes.specs.Wakes.{wake_of, has_wake, woken_at, WakesKept, AreWakesOf}

-- how many slots of the good first run stand before those that are gathered, and before their end
pub record WakesSpan : Type 0 where
  pub before : ℕ
  pub through : ℕ

abbrev pub no_span : ℕ → WakesSpan
no_span number = record { before = number; through = number }

-- what is gathered of these slots: their wakes, in any order, and how many events they have
pub record GathersWakes (design : FlatDesign) (plan : TestPlan) (before through moment : ℕ) (wakes : List Wake) : Type 0 where
  pub rules : KeepsRules design
  pub run_fits : length (good_slots design plan) < 2 ^ 63
  pub order : before ≤ through
  pub each : (number process : ℕ) → has_wake (map wake_of wakes) number process ≡ woken_at (good_machine design) (window_events design plan before through) process number
  pub moment_is : moment ≡ length (window_events design plan before through)

-- what is kept of a window
abbrev pub KeepsWakes : FlatDesign → TestPlan → ℕ → ℕ → List Wake → Type 0
KeepsWakes design plan before through wakes = AreWakesOf design plan (record { before = before; through = through; wakes = map wake_of wakes })
