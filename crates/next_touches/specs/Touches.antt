-- What is remembered of a window: stretches of moments in which its events leave objects and processes alone (events by IEEE 1364-2001, clause 5).
use Rattle.std.specs.Prelude.{◌≡◌, ℕ, ◌<◌, List, length, get_or}
use Rattle.v_design.specs.Designs.{FlatDesign, TestPlan}
use Rattle.copy_skip.specs.Limits.{IsLeftAlone, NoneBetween}
use Rattle.trace_window.specs.Acted.{stepped_at}
use Rattle.trace_window.specs.Moments.{Seen, window_events}
use Rattle.next_touches.specs.declared.stretch.Stretch.{Stretch}
use Rattle.next_touches.specs.declared.table.TouchTable.{TouchTable}

-- the stretch in which nothing is known
abbrev pub no_stretch : Stretch
no_stretch = record { from = 1; until = 0 }

-- so many stretches, and in each that of which is spoken holds of its number
pub record AreStretches (Alone : ℕ → ℕ → ℕ → Type 0) (count : ℕ) (stretches : List Stretch) : Type 0 where
  pub count_is : length stretches ≡ count
  pub each : (number : ℕ) → number < count → Alone number (get_or stretches number no_stretch).from (get_or stretches number no_stretch).until

-- for each object one in which all events leave it alone
abbrev pub AreLeftBy : FlatDesign → List Seen → List Stretch → Type 0
AreLeftBy design events = AreStretches (IsLeftAlone design events) (length design.objects)

-- for each process one in which neither it nor its lane takes a step
abbrev pub AreStepsBy : FlatDesign → List Seen → List Stretch → Type 0
AreStepsBy design events = AreStretches (λ process. NoneBetween (stepped_at events process)) (length design.processes)

-- so many in which nothing is known
pub record AreUnknown (count : ℕ) (stretches : List Stretch) : Type 0 where
  pub count_is : length stretches ≡ count
  pub each : (number : ℕ) → number < count → get_or stretches number no_stretch ≡ no_stretch

-- what a table remembers of its window
pub record KnowsTouches (design : FlatDesign) (plan : TestPlan) (table : TouchTable) : Type 0 where
  pub objects : AreLeftBy design (window_events design plan table.before table.through) table.objects.items
  pub processes : AreStepsBy design (window_events design plan table.before table.through) table.processes.items
