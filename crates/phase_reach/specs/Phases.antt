-- Phases of a window (nothing of the language).
use Rattle.std.specs.Prelude.{ℕ, List}
use Rattle.v_design.specs.Designs.{FlatDesign, TestPlan}
use Rattle.trace_window.specs.Moments.{Seen, window_events}
use Rattle.good_trace.specs.Traces.{WindowKept}
use Rattle.race_notes.specs.Notes.{NotesKept}

-- a phase of a window up to a moment, with notes of its own blocks
pub record NotedPhase : Type 0 where
  pub design : FlatDesign
  pub plan : TestPlan
  pub begins : ℕ
  pub ends : ℕ
  pub end : ℕ
  pub notes : NotesKept

-- the events of its window
abbrev pub events_of : NotedPhase → List Seen
events_of phase = window_events phase.design phase.plan phase.begins phase.ends

-- the phase of a window up to a moment of which notes are
abbrev pub noted_phase : FlatDesign → TestPlan → WindowKept → NotesKept → ℕ → NotedPhase
noted_phase design plan window notes end = record { design = design; plan = plan; begins = window.before; ends = window.through; end = end; notes = notes }
