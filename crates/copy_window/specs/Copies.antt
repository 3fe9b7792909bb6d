-- The differences for which a copy stands, by the design alone (nothing of the language).
use Rattle.std.specs.Prelude.{ℕ, None, Some, slice_get}
use Rattle.v_design.specs.Designs.{FlatDesign}
use Rattle.v_design.specs.Processes.{Activity, Done}
use Rattle.process_code.specs.Layouts.{layout_of_body}
use Rattle.process_code.specs.Points.{activity_at, point_of}
use Rattle.process_code.specs.declared.state.ProcState.{ProcState}
use Rattle.copy_laws.specs.Differences.{Differences}
use Rattle.copy_state.specs.Entries.{each_by}
use Rattle.copy_state.specs.Kept.{CopyKept}

-- what a process of a design does in a state of its code; nothing where there is no such process
abbrev pub done_in : FlatDesign → ℕ → ProcState → Activity
done_in design process state = elim (slice_get design.processes process) [ None ↦ Done | Some own ↦ activity_at (layout_of_body own.body).rests (point_of state) ]

-- the differences for which a copy stands
abbrev pub differences_in : FlatDesign → CopyKept → Differences
differences_in design kept = record { values = kept.values; activities = each_by (done_in design) kept.states; updates = kept.updates }
