-- Which objects some events read or write, and which they write, numbered through (events and their accesses by IEEE 1364-2001, clause 5).
use Rattle.std.specs.Prelude.{◌≡◌, ℕ, ◌+◌, ◌<◌, ◌≤◌, Bool, true, false, ◌&&◌, List, [], ◌∷◌, ◌++◌, Option, Some, None, nat_eq, slice_get}
use Rattle.std.specs.List.{list_any}
use Rattle.v_design.specs.Designs.{Machine}
use Rattle.v_design.specs.Accesses.{AccessAct, Reading, Writing, Awaiting, Ending, Holding, Settling, ObjectAccess, accesses_of}
use Rattle.window_index.specs.declared.occurrence.Occurrence.{Occurrence}
use Rattle.trace_window.specs.Moments.{Seen}

-- an access, before other touches
abbrev pub touch_before : ℕ → ℕ → AccessAct → List Occurrence → List Occurrence
touch_before moment object Reading rest = record { number = object; moment = moment } ∷ rest
touch_before moment object (Writing old new) rest = record { number = object; moment = moment } ∷ rest
touch_before moment object (Awaiting entry) rest = rest
touch_before moment object (Ending entry) rest = rest
touch_before moment object (Holding entry) rest = rest
touch_before moment object Settling rest = rest

-- the objects that the accesses of an event read or write
abbrev pub touches_in : ℕ → List ObjectAccess → List Occurrence
touches_in moment [] = []
touches_in moment (access ∷ rest) = touch_before moment access.object access.act (touches_in moment rest)

-- the same of some events, the first of which has a number
abbrev pub touches_from : ℕ → List (List ObjectAccess) → List Occurrence
touches_from number [] = []
touches_from number (accesses ∷ rest) = touches_in number accesses ++ touches_from (number + 1) rest

-- whether an access reads or writes its object
abbrev pub is_touching : AccessAct → Bool
is_touching Reading = true
is_touching (Writing old new) = true
is_touching (Awaiting entry) = false
is_touching (Ending entry) = false
is_touching (Holding entry) = false
is_touching Settling = false

-- whether some accesses read or write an object
abbrev pub touches : ℕ → List ObjectAccess → Bool
touches object accesses = list_any (λ (access : ObjectAccess). is_touching access.act && nat_eq access.object object) accesses

-- whether an event reads or writes an object, a net piece only where that changes
abbrev pub event_touches : Machine → ℕ → Seen → Bool
event_touches machine object seen = touches object (accesses_of machine 0 0 seen.before seen.event)

-- the same of the event of a number, if there is one
abbrev pub touched_at : Machine → List Seen → ℕ → ℕ → Bool
touched_at machine events object number = elim (slice_get events number) [ None ↦ false | Some seen ↦ event_touches machine object seen ]

-- whether an access writes its object
abbrev pub is_writing : AccessAct → Bool
is_writing Reading = false
is_writing (Writing old new) = true
is_writing (Awaiting entry) = false
is_writing (Ending entry) = false
is_writing (Holding entry) = false
is_writing Settling = false

-- whether some accesses write an object
abbrev pub writes : ℕ → List ObjectAccess → Bool
writes object accesses = list_any (λ (access : ObjectAccess). is_writing access.act && nat_eq access.object object) accesses

-- whether an event writes an object, a net piece only where that changes
abbrev pub event_writes : Machine → ℕ → Seen → Bool
event_writes machine object seen = writes object (accesses_of machine 0 0 seen.before seen.event)

-- the same of the event of a number, if there is one
abbrev pub written_at : Machine → List Seen → ℕ → ℕ → Bool
written_at machine events object number = elim (slice_get events number) [ None ↦ false | Some seen ↦ event_writes machine object seen ]

-- the first of so many numbers that isn't before a moment and passes a test; none where none does
abbrev pub IsFirstFrom : (ℕ → Bool) → ℕ → ℕ → Option ℕ → Type 0
IsFirstFrom test count moment None = (number : ℕ) → moment ≤ number → number < count → test number ≡ false
IsFirstFrom test count moment (Some first) =
    (moment ≤ first) × (first < count) × (test first ≡ true) × ((number : ℕ) → moment ≤ number → number < first → test number ≡ false)
