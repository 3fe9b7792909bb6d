-- The good first run as it is pushed, and its windows (slots by IEEE 1364-2001, clause 5).
use Rattle.std.specs.Prelude.{◌≡◌, ℕ, ◌+◌, ◌^◌, ◌<◌, ◌≤◌, List, length}
use Rattle.four_value.specs.Values.{LogicValue}
use Rattle.v_design.specs.Accesses.{ObjectAccess}
use Rattle.v_design.specs.Designs.{FlatDesign, TestPlan}
use Rattle.v_design.specs.WellFormed.{KeepsRules}
use Rattle.process_code.specs.declared.code.Code.{Code}
use Rattle.copy_laws.specs.Windows.{WindowEnd, IsWindow, good_slots, window_steps}
use Rattle.trace_window.specs.Moments.{values_through}
use Rattle.good_trace.specs.declared.events.Events.{Events}
use Rattle.good_trace.specs.declared.pushed.PushedSlots.{PushedSlots}
use Rattle.good_trace.specs.declared.pushed.SlotTable.{SlotTable}
use Rattle.good_trace.specs.Beginnings.{AreTimes, AreBeginnings}
use Rattle.good_trace.specs.Events.{AreGathered, AreWindowEvents}

-- what contracts see of a trace: the code of each process, how many slots were pushed, and how many of these stand in windows that were closed
pub record TraceKept : Type 0 where
  pub codes : List Code
  pub pushed : ℕ
  pub closed : ℕ

-- what contracts see of a window: how many slots of the good first run stand before it, how many before its end, and how it ends
pub record WindowKept : Type 0 where
  pub before : ℕ
  pub through : ℕ
  pub ending : WindowEnd

-- a trace has of the slots of the good first run since its last close what a window tells of them, counts their process and lane steps, and has what the objects hold before them; they are a
-- window at most
pub record IsTrace (design : FlatDesign) (plan : TestPlan) (pushed closed steps : ℕ) (values : List LogicValue) (slots : PushedSlots) : Type 0 where
  pub rules : KeepsRules design
  pub values_are : values ≡ values_through design plan closed
  pub values_count : length values ≡ length design.objects
  pub run_fits : length (good_slots design plan) < 2 ^ 63
  pub times_are : AreTimes design plan closed pushed slots.table.times.items
  pub accesses : List (List ObjectAccess)
  pub events_are : AreGathered design plan closed pushed accesses slots.list
  pub beginnings_are : AreBeginnings design plan closed pushed accesses slots.table.beginnings.items
  pub counted : steps ≡ window_steps design plan closed pushed
  pub few_slots : length slots.table.times.items ≤ 64
  pub few_steps : steps ≤ 300000

-- a window is no greater than a trace lets it grow
pub record IsWindowOf (design : FlatDesign) (plan : TestPlan) (before through : ℕ) (ending : WindowEnd) : Type 0 where
  pub window : IsWindow design plan before through ending
  pub few_slots : through ≤ before + 64
  pub few_steps : window_steps design plan before through ≤ 300000

-- it has its slots, with what their events write and touch
pub record IsTraceWindow (design : FlatDesign) (plan : TestPlan) (before through : ℕ) (ending : WindowEnd) (values : List LogicValue) (events : Events) (slots : SlotTable) : Type 0 where
  pub stands : IsWindowOf design plan before through ending
  pub events_are : AreWindowEvents design plan before through values events
  pub beginnings_are : AreBeginnings design plan before through events_are.accesses slots.beginnings.items
  pub times_are : AreTimes design plan before through slots.times.items
