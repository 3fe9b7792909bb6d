-- What came of a slot of the good first run, and of all slots of a window (slots by IEEE 1364-2001, clause 5).
use Rattle.std.specs.Prelude.{◌≡◌, ℕ, ◌+◌, Bool, true, false, Some, slice_get}
use Rattle.vf_base.specs.Base.{reported_pair}
use Rattle.vf_base.specs.declared.finding.Pair.{Pair}
use Rattle.v_design.specs.Designs.{FlatDesign, TestPlan, good_machine}
use Rattle.v_design.specs.Runs.{FirstSlot}
use Rattle.v_design.specs.Grades.{SlotOutcome, Fine, Race, Hyper, slot_outcome}
use Rattle.run_ends.specs.RunEnds.{AreCodesOf}
use Rattle.copy_laws.specs.Windows.{good_slots}
use Rattle.machine.specs.declared.end.SlotEnd.{SlotEnd}
use Rattle.machine.specs.declared.end.SlotEnd.TheVariants as slot
use Rattle.machine.specs.declared.parts.Machine.{Machine as Simulated}
use Rattle.good_trace.specs.Slots.{end_of}
use Rattle.good_trace.specs.Traces.{TraceKept, WindowKept}
use Rattle.good_windows.specs.declared.slot.Put.{Put}
use Rattle.good_windows.specs.declared.slot.Put.TheVariants.{Room, Full, Raced, Looped}
use Rattle.good_windows.specs.declared.fill.Filled.{Filled}
use Rattle.good_windows.specs.declared.stage.Stage.{Stage}
use Rattle.good_windows.specs.Next.{LoopsBehind, AllStand, IsNextWindow, is_full_at}
use Rattle.good_windows.specs.Stages.{StandsAfter, GoesOnSo, IsLast, ending}

-- A slot

-- what came of a slot, by its end, and by whether the window is full with it
abbrev pub room_by : Bool → Put
room_by true = Full
room_by false = Room

abbrev pub put_by : SlotEnd → Bool → Put
put_by slot.Fine full = room_by full
put_by (slot.Race pair) full = Raced pair
put_by slot.Hyper full = Looped

-- a slot with an outcome stands at a place of the good first run
pub record StandsAt (design : FlatDesign) (plan : TestPlan) (number : ℕ) (outcome : SlotOutcome) : Type 0 where
  pub slot : FirstSlot
  pub stands : slice_get (good_slots design plan) number ≡ Some slot
  pub outcome_is : slot_outcome (good_machine design) slot ≡ outcome

-- the next slot was put into the trace
abbrev pub one_more : TraceKept → TraceKept
one_more trace = record trace { pushed = trace.pushed + 1 }

pub record PutsFine (design : FlatDesign) (plan : TestPlan) (old : TraceKept) (full : Bool) (m : Simulated) (new : TraceKept) : Type 0 where
  pub trace_is : new ≡ one_more old
  pub slot : StandsAt design plan old.pushed Fine
  pub stands : StandsAfter design plan (old.pushed + 1) m
  pub full_is : is_full_at design plan old.closed (old.pushed + 1) ≡ full

pub record PutsRaced (design : FlatDesign) (plan : TestPlan) (old : TraceKept) (pair : Pair) (new : TraceKept) : Type 0 where
  pub trace_is : new ≡ one_more old
  pub slot : StandsAt design plan old.pushed (Race (reported_pair pair))
  pub all : AllStand design plan (old.pushed + 1)

-- the slot at a time was run, and this came of it
abbrev pub PutsSlot : FlatDesign → TestPlan → ℕ → TraceKept → Put → Simulated → TraceKept → Type 0
PutsSlot design plan time old Room m new = PutsFine design plan old false m new
PutsSlot design plan time old Full m new = PutsFine design plan old true m new
PutsSlot design plan time old (Raced pair) m new = PutsRaced design plan old pair new
PutsSlot design plan time old Looped m new = LoopsBehind design plan old.pushed time × StandsAt design plan old.pushed Hyper × (new ≡ old)

-- All slots of a window

-- the slots of a trace since its last close, after which the run goes on so
abbrev pub window_kept : TraceKept → Stage → WindowKept
window_kept trace stage = record { before = trace.closed; through = trace.pushed; ending = end_of (ending stage) }

-- these are the next window; or there are none, and none comes
pub record IsGathered (design : FlatDesign) (plan : TestPlan) (trace : TraceKept) (filled : Filled) : Type 0 where
  pub window : filled.some ≡ true → IsNextWindow design plan trace.closed (window_kept trace filled.stage)
  pub none : filled.some ≡ false → (trace.pushed ≡ trace.closed) × IsLast design plan trace.closed filled.stage

-- so many slots stood in windows when the slots of the next one were put into the trace
pub record IsFilled (design : FlatDesign) (plan : TestPlan) (closed : ℕ) (m : Simulated) (trace : TraceKept) (filled : Filled) : Type 0 where
  pub codes : AreCodesOf design trace.codes
  pub closed_is : trace.closed ≡ closed
  pub gathered : IsGathered design plan trace filled
  pub goes_on : GoesOnSo design plan trace.pushed m filled.stage
