-- Objects of which no two accesses conflict in a phase in lockstep, by notes of its own blocks and by the tables of a window (conflicts by IEEE 1364-2001, clause 5).
use Rattle.std.specs.Prelude.{◌≡◌, ◌⊎◌, ◌<◌, ◌≤◌, ℕ, true, false, List, Some, nat_lt}
use Rattle.vf_base.specs.Lists.{has}
use Rattle.v_design.specs.Paths.{paths, net_pieces}
use Rattle.v_design.specs.Designs.{good_machine}
use Rattle.copy_laws.specs.Filter.{IsIn}
use Rattle.trace_window.specs.Touched.{written_at}
use Rattle.lockstep_waits.specs.Awaited.{is_awaited}
use Rattle.phase_reach.specs.window_tests.Between.{OnlyWithin, read_at}
use Rattle.race_notes.specs.declared.note.OwnSpan.{OwnSpan}
use Rattle.race_notes.specs.Notes.{note_at}
use Rattle.phase_reach.specs.lockstep_notes.Notes.{some_reaches}
use Rattle.phase_reach.specs.Phases.{NotedPhase, events_of}

-- a moment lies in one of some blocks of the good machine
abbrev pub IsCovered : List OwnSpan → ℕ → Type 0
IsCovered spans moment = (span : OwnSpan) × IsIn span spans × (span.begins ≤ moment) × (moment < span.ends)

-- the good machine's stretches don't write an object, or don't read it, from a moment on
abbrev pub StretchesLeave : NotedPhase → ℕ → ℕ → Type 0
StretchesLeave phase object since = OnlyWithin (IsCovered phase.notes.spans) (written_at (good_machine phase.design) (events_of phase) object) since phase.end

abbrev pub StretchesIgnore : NotedPhase → ℕ → ℕ → Type 0
StretchesIgnore phase object since = OnlyWithin (IsCovered phase.notes.spans) (read_at (good_machine phase.design) (events_of phase) object) since phase.end

-- a net piece on which no process waits, and which nothing in the phase reads
pub record IsUnreadNet (phase : NotedPhase) (object : ℕ) : Type 0 where
  pub piece : has (net_pieces phase.design) object ≡ true
  pub unawaited : is_awaited phase.design object ≡ false
  pub own : (note_at phase.notes.objects object).read ≡ false
  pub stretches : StretchesIgnore phase object phase.notes.first

-- nothing in the phase writes an object
pub record IsNeverWritten (phase : NotedPhase) (object : ℕ) : Type 0 where
  pub own : (note_at phase.notes.objects object).written ≡ false
  pub stretches : StretchesLeave phase object phase.notes.first

-- own blocks read or write it once at most, the stretches don't, and no process waits on it
pub record IsTouchedOnce (phase : NotedPhase) (object : ℕ) : Type 0 where
  pub unawaited : is_awaited phase.design object ≡ false
  pub own : (note_at phase.notes.objects object).again ≡ false
  pub unwritten : StretchesLeave phase object phase.notes.first
  pub unread : StretchesIgnore phase object phase.notes.first

-- what own blocks do with it the good machine's blocks beside them do too, and from the first one on nothing writes it
pub record IsMetAlone (phase : NotedPhase) (object : ℕ) : Type 0 where
  pub met : (note_at phase.notes.objects object).suspect ≡ false
  pub own : (note_at phase.notes.objects object).written ≡ false
  pub since : ℕ
  pub since_is : (note_at phase.notes.objects object).since ≡ Some since
  pub stretches : StretchesLeave phase object since

-- nothing that own blocks wrote or the good machine's beside them reaches an object, nor does what the good machine writes in the phase from a moment on
pub record IsUnreachedFrom (phase : NotedPhase) (since object : ℕ) : Type 0 where
  pub own : some_reaches phase.design phase.notes.changed object ≡ false
  pub good : (source moment : ℕ) → since ≤ moment → moment < phase.end → written_at (good_machine phase.design) (events_of phase) source moment ≡ true →
      nat_lt 0 (paths phase.design source object) ≡ false

-- nothing that is written in the phase does
abbrev pub IsUnreachedNet : NotedPhase → ℕ → Type 0
IsUnreachedNet phase object = IsUnreachedFrom phase phase.notes.first object

-- what own blocks do with it the good machine's blocks beside them do too, and from the first one on nothing writes it or reaches it: so it holds one value from there on
pub record IsMetSettled (phase : NotedPhase) (object : ℕ) : Type 0 where
  pub met : IsMetAlone phase object
  pub unreached : IsUnreachedFrom phase met.since object

-- an object is no net piece, or one that nothing reaches: so it isn't wild
abbrev pub IsTame : NotedPhase → ℕ → Type 0
IsTame phase object = (has (net_pieces phase.design) object ≡ false) ⊎ IsUnreachedNet phase object

-- so no two accesses of it conflict, or none that are left
abbrev pub IsFreeHere : NotedPhase → ℕ → Type 0
IsFreeHere phase object =
    IsUnreadNet phase object ⊎ (IsMetSettled phase object ⊎ (IsTame phase object × (IsNeverWritten phase object ⊎ (IsTouchedOnce phase object ⊎ IsMetAlone phase object))))
