-- The events of a window as they are kept, and the window of the good first run whose events they are (events and their accesses by IEEE 1364-2001, clause 5).
use Rattle.std.specs.Prelude.{◌≡◌, ℕ, List, map, length}
use Rattle.four_value.specs.Values.{LogicValue}
use Rattle.v_design.specs.Designs.{FlatDesign, TestPlan, good_machine}
use Rattle.v_design.specs.Accesses.{ObjectAccess}
use Rattle.v_design.specs.WellFormed.{KeepsRules}
use Rattle.v_design.specs.States.{Event}
use Rattle.window_index.specs.Moments.{IsIndexOf}
use Rattle.trace_window.specs.declared.list.EventList.{EventList}
use Rattle.trace_window.specs.declared.sizes.Sizes.{Sizes}
use Rattle.trace_window.specs.Acted.{events_of, evaluations_from, steps_from}
use Rattle.trace_window.specs.Listed.{AreListed}
use Rattle.trace_window.specs.Moments.{window_events, values_through}
use Rattle.trace_window.specs.Occurring.{below}
use Rattle.trace_window.specs.Touched.{touches_from}
use Rattle.trace_window.specs.Writes.{written_of, writes_from}
use Rattle.good_trace.specs.declared.events.Events.{Events}

-- how much a design has
abbrev pub sizes_of : FlatDesign → Sizes
sizes_of design = record { objects = length design.objects; nodes = length design.nodes; processes = length design.processes }

-- Listed

-- what some events of a design of these sizes write and touch is gathered, and who acts in them
pub record IsGathered (sizes : Sizes) (accesses : List (List ObjectAccess)) (acted : List Event) (list : EventList) : Type 0 where
  pub as_many : length acted ≡ length accesses
  pub moment : list.moment ≡ length accesses
  pub changes : map written_of list.changes.items ≡ writes_from 0 accesses
  pub touches : list.touches.items ≡ below sizes.objects (touches_from 0 accesses)
  pub evaluations : list.evaluations.items ≡ below sizes.nodes (evaluations_from 0 acted)
  pub steps : list.steps.items ≡ below sizes.processes (steps_from 0 acted)

-- the same of whatever events
pub record GathersSome (sizes : Sizes) (list : EventList) : Type 0 where
  pub accesses : List (List ObjectAccess)
  pub acted : List Event
  pub gathered : IsGathered sizes accesses acted list

-- the events of a window of the good first run, which have these accesses, are gathered
pub record AreGathered (design : FlatDesign) (plan : TestPlan) (before through : ℕ) (accesses : List (List ObjectAccess)) (list : EventList) : Type 0 where
  pub listed : AreListed (good_machine design) (window_events design plan before through) accesses
  pub gathered : IsGathered (sizes_of design) accesses (events_of (window_events design plan before through)) list

-- Indexed

-- an index of each kind has a number for each object, node or process of a design of these sizes
pub record HasSizes (sizes : Sizes) (events : Events) : Type 0 where
  pub changes : events.changes.count ≡ sizes.objects
  pub touches : length events.touches ≡ sizes.objects
  pub evaluations : length events.evaluations ≡ sizes.nodes
  pub steps : length events.steps ≡ sizes.processes

-- some events are indexed by object, by node and by process
pub record AreEvents (sizes : Sizes) (accesses : List (List ObjectAccess)) (acted : List Event) (events : Events) : Type 0 where
  pub count : events.count ≡ length accesses
  pub objects_are : events.changes.count ≡ sizes.objects
  pub changes_are : events.changes.writes ≡ writes_from 0 accesses
  pub touches_are : IsIndexOf sizes.objects (touches_from 0 accesses) events.touches
  pub evaluations_are : IsIndexOf sizes.nodes (evaluations_from 0 acted) events.evaluations
  pub steps_are : IsIndexOf sizes.processes (steps_from 0 acted) events.steps

-- the events are those of a window, which begins with some values
pub record AreWindowEvents (design : FlatDesign) (plan : TestPlan) (before through : ℕ) (values : List LogicValue) (events : Events) : Type 0 where
  pub rules : KeepsRules design
  pub values_are : values ≡ values_through design plan before
  pub values_count : length values ≡ length design.objects
  pub accesses : List (List ObjectAccess)
  pub listed : AreListed (good_machine design) (window_events design plan before through) accesses
  pub events_are : AreEvents (sizes_of design) accesses (events_of (window_events design plan before through)) events
