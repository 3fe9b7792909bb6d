-- What the fields of a log stand for (nothing of the language).
use Rattle.std.specs.Prelude.{ℕ, ◌+◌, ◌<◌, ◌≤◌, List, [], ◌∷◌, map, length, slice_range}
use Rattle.std.specs.Option.{ForSome}
use Rattle.vf_base.specs.Lists.{AllHold}
use Rattle.v_design.specs.Logs.{LoggedEvent, LoggedPhase}
use Rattle.causal_monitor.specs.declared.noted.Noted.{Noted}
use Rattle.causal_monitor.specs.declared.log.Entry.{Entry}
use Rattle.causal_monitor.specs.Notes.{IsNoted, IsHeld, noted_access}

-- an event, whose accesses stand among those of all events
abbrev pub logged_event : List Noted → Entry → LoggedEvent
logged_event accesses entry = record { cause = entry.cause; accesses = map noted_access (slice_range accesses entry.start entry.end) }

-- a phase
abbrev pub logged_phase : List Noted → List Noted → List Entry → LoggedPhase
logged_phase held accesses events = record { held = map noted_access held; events = map (logged_event accesses) events }

-- the accesses of an event stand among the first so many
abbrev pub StandsWithin : ℕ → Entry → Type 0
StandsWithin count entry = (entry.start ≤ entry.end) × (entry.end ≤ count)

-- the cause of each event is an earlier one, the first event having the number n
abbrev pub CausesAreEarlier : ℕ → List Entry → Type 0
CausesAreEarlier n [] = Unit {0}
CausesAreEarlier n (entry ∷ entries) = ForSome entry.cause (λ cause. cause < n) × CausesAreEarlier (n + 1) entries

-- what a log keeps: each access has its parts, those of an event are there, and causes come before
pub record IsKept (held accesses : List Noted) (events : List Entry) : Type 0 where
  pub held_are : AllHold IsHeld held
  pub accesses_are : AllHold IsNoted accesses
  pub stand : AllHold (StandsWithin (length accesses)) events
  pub causes_are : CausesAreEarlier 0 events
