-- What a window has once it is closed, and the memory that it takes (nothing of the language).
use Rattle.std.specs.Prelude.{◌≡◌, ℕ, ◌-◌, ◌<◌, List, [], Some, get_or, length, slice_get}
use Rattle.v_design.specs.Accesses.{ObjectAccess}
use Rattle.v_design.specs.States.{Event}
use Rattle.trace_window.specs.declared.sizes.Sizes.{Sizes}
use Rattle.trace_window.specs.Writes.{latest}
use Rattle.window_runs.specs.RunsByProcess.{IsRunIndexOf}
use Rattle.window_runs.specs.Standing.{AreStatesAfter}
use Rattle.window_runs.specs.Through.{AreUpdatesAfter}
use Rattle.good_trace.specs.declared.between.BetweenSlots.{BetweenSlots}
use Rattle.good_trace.specs.declared.closing.Closed.{Closed}
use Rattle.good_trace.specs.declared.pushed.PushedSlots.{PushedSlots}
use Rattle.good_trace.specs.declared.spare.Spare.{Spare}
use Rattle.good_trace.specs.Events.{IsGathered, HasSizes, AreEvents}
use Rattle.good_trace.specs.Pushes.{HasNoSlot}

-- what stands between two slots of a design of these sizes
pub record FitsBetween (sizes : Sizes) (between : BetweenSlots) : Type 0 where
  pub values : length between.values.items ≡ sizes.objects
  pub states : length between.states.items ≡ sizes.processes
  pub updates : length between.updates.items ≡ sizes.processes

-- what a window of such a design has, as memory for another one
pub record FitsClosed (sizes : Sizes) (used : Closed) : Type 0 where
  pub events : HasSizes sizes used.events
  pub phases : length used.index.phases ≡ sizes.processes
  pub places : length used.index.places ≡ sizes.processes
  pub values : length used.later.values.items ≡ sizes.objects

-- the same with a table of no slots
pub record FitsSpare (sizes : Sizes) (spare : Spare) : Type 0 where
  pub closed : FitsClosed sizes spare.closed
  pub table : HasNoSlot spare.table

-- what a window has of slots that were pushed, which have so many phases, where this stands before the first of them
pub record IsClosed (sizes : Sizes) (phases : ℕ) (before : BetweenSlots) (slots : PushedSlots) (closed : Closed) : Type 0 where
  pub events : (accesses : List (List ObjectAccess)) (acted : List Event) → IsGathered sizes accesses acted slots.list → AreEvents sizes accesses acted closed.events
  pub index_is : IsRunIndexOf sizes.processes slots.table.runs.items closed.index
  pub values_count : length closed.later.values.items ≡ length before.values.items
  pub values : (object : ℕ) → object < length before.values.items →
      get_or closed.later.values.items object [] ≡ latest (get_or before.values.items object []) object closed.events.count closed.events.changes.writes
  pub states : AreStatesAfter before.states.items slots.table.runs.items closed.later.states.items
  -- the time of the last slot
  pub time : ℕ
  pub last : slice_get slots.table.times.items (length slots.table.times.items - 1) ≡ Some time
  pub updates : AreUpdatesAfter phases time before.updates.items slots.table.runs.items closed.later.updates.items
