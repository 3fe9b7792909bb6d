-- A phase of a slot as plain data (IEEE 1364-2001, clause 5.3).
use Rattle.std.specs.Prelude.{◌≡◌, ℕ, ◌<◌, List, [], ◌∷◌, ◌++◌, map, length, Some, slice_get}
use Rattle.vf_base.specs.Lists.{AllHold}
use Rattle.v_design.specs.States.{found_or}
use Rattle.v_design.specs.Designs.{FlatDesign}
use Rattle.v_design.specs.Accesses.{ObjectAccess}
use Rattle.v_design.specs.Logs.{LoggedEvent, LoggedPhase, cause_at}

-- the time of the slot, the number of the phase, from 1, and its log
pub record PhaseOfSlot : Type 0 where
  pub time : ℕ
  pub phase : ℕ
  pub log : LoggedPhase

-- nothing is noted
abbrev pub empty_log : ℕ → ℕ → PhaseOfSlot
empty_log time phase = record { time = time; phase = phase; log = record { held = []; events = [] } }

-- one event more
abbrev pub with_event : LoggedEvent → PhaseOfSlot → PhaseOfSlot
with_event event old = record old { log = record { held = old.log.held; events = old.log.events ++ event ∷ [] } }

-- one held entry more
abbrev pub with_held : ObjectAccess → PhaseOfSlot → PhaseOfSlot
with_held access old = record old { log = record { held = old.log.held ++ access ∷ []; events = old.log.events } }

-- the accesses of an event
abbrev pub accesses_at : LoggedPhase → ℕ → List ObjectAccess
accesses_at log number = found_or [] (slice_get (map (λ (event : LoggedEvent). event.accesses) log.events) number)

-- each event comes after its cause
abbrev pub CausesComeBefore : LoggedPhase → Type 0
CausesComeBefore log = (event cause : ℕ) → cause_at log event ≡ Some cause → cause < event

-- the accesses are of objects of the design
abbrev pub NameObjects : FlatDesign → List ObjectAccess → Type 0
NameObjects design accesses = AllHold (λ (access : ObjectAccess). access.object < length design.objects) accesses

-- a log of a phase of the design: its accesses are of the design's objects
pub record IsLogOf (design : FlatDesign) (log : LoggedPhase) : Type 0 where
  pub held : NameObjects design log.held
  pub noted : AllHold (λ (event : LoggedEvent). NameObjects design event.accesses) log.events
