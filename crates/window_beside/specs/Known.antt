-- What is known of a faulty machine's slots beside those of a window (slots by IEEE 1364-2001, clause 5; steps by clause 9).
use Rattle.std.specs.Prelude.{◌≡◌, ℕ, ◌<◌, ◌≤◌, Bool, [], length, Option, Some, None}
use Rattle.v_design.specs.Designs.{FlatDesign, StuckAt, TestPlan}
use Rattle.v_design.specs.WellFormed.{KeepsRules}
use Rattle.copy_laws.specs.Windows.{WindowEnd, time_at, window_slots}
use Rattle.own_counts.specs.Joins.{IsByToo}
use Rattle.good_trace.specs.BesideSlots.{TellsSlots}
use Rattle.fault_strobes.specs.Said.{plan_by}
use Rattle.window_strobes.specs.Leading.{LeadsTo}
use Rattle.window_grade.specs.Beside.{IsKnownBeside, WereTaken, tried_in}
use Rattle.window_grade.specs.declared.beside.RunBeside.{RunBeside}
use Rattle.window_beside.specs.Tried.{IsTriedAt, MayTry}

-- the time to which faults are graded in a window, or the one from which, where there is none
abbrev pub led_to : Option ℕ → Option ℕ → Option ℕ
led_to now None = now
led_to now (Some until) = Some until

-- the law
pub record SlotsAreKnown : Type 0 where
  -- from some of a window's slots on and up to the time to which others of them lead, the window tells each slot of the good machine
  pub known : (design : FlatDesign) (plan : TestPlan) (fault : StuckAt) (kept : Bool) (beside : RunBeside) (before through from end until : ℕ) (ending : WindowEnd) → KeepsRules design →
      TellsSlots design (window_slots design plan before through) beside.slots → before ≤ from → end ≤ through → LeadsTo design plan from end ending (Some until) →
      WereTaken design (plan_by kept plan) fault beside → IsKnownBeside design (plan_by kept plan) fault (time_at design plan from) until beside
  -- where nothing was taken, that counts as own, in each stretch
  pub none : (design : FlatDesign) (plan : TestPlan) (fault : StuckAt) (beside : RunBeside) → KeepsRules design → beside.tried.now ≡ [] → WereTaken design plan fault beside
  pub nothing : (beside : RunBeside) (from until : Option ℕ) → beside.tried.now ≡ [] → tried_in beside from until ≡ length beside.tried.now
  -- what was taken in a slot counts as own
  pub taken : (design : FlatDesign) (plan : TestPlan) (fault : StuckAt) (beside : RunBeside) (gone : ℕ) → KeepsRules design → MayTry design plan gone fault beside.tried.now →
      IsTriedAt design plan gone beside.time → WereTaken design plan fault beside
  -- it comes within each stretch that begins behind those slots
  pub all : (design : FlatDesign) (plan : TestPlan) (fault : StuckAt) (beside : RunBeside) (gone end : ℕ) → KeepsRules design → MayTry design plan gone fault beside.tried.now →
      IsTriedAt design plan gone beside.time → gone < end → tried_in beside (time_at design plan gone) (time_at design plan end) ≡ length beside.tried.now
  -- the time to which some slots lead lies between those before and behind them
  pub behind : (design : FlatDesign) (plan : TestPlan) (before through : ℕ) (ending : WindowEnd) (until : Option ℕ) → KeepsRules design → LeadsTo design plan before through ending until →
      IsByToo (time_at design plan before) (led_to (time_at design plan before) until) × IsByToo (led_to (time_at design plan before) until) (time_at design plan through)
