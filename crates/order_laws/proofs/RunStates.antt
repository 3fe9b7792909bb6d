-- A run by places: the state before each event, its note, and its cause.
use Rattle.std.proofs.Common.{◌≡◌, ℕ, zero, suc, ◌<◌, ◌≤◌, List, [], ◌∷◌, ◌++◌, length, true, false, ◌&&◌, refl, sym, ap, subst, ◌∙◌, arith, map}
use Rattle.std.specs.Prelude.{Option, Some, None, slice_get}
use Rattle.v_design.specs.Designs.{FlatNode, Machine}
use Rattle.v_design.specs.States.{State, Event, Step, LaneStep, Evaluation, NetUpdate, after, possible, found_or}
use Rattle.v_design.specs.Runs.{happened, all_possible}
use Rattle.v_design.specs.Accesses.{ObjectAccess, accesses_of}
use Rattle.v_design.specs.Logs.{cause_at}
use Rattle.v_design.specs.PhaseLogs.{NotedEvent, note_of, may_cause, changes_input, cause_of, log_of}
use Rattle.order_laws.proofs.Conflicts.{append-assoc}
use Rattle.order_laws.proofs.SwappedLogs.{accesses_at}
use Rattle.order_laws.proofs.Notes.{new_notes, length-new_notes}
use Rattle.order_laws.proofs.PairsOfRuns.{cause_at-new, accesses_at-new}
use Rattle.order_laws.proofs.QuietNets.{and-first}
use Rattle.order_laws.proofs.LastPlaces.{none_last, last_none, last_found, last_is}

-- so many of the first elements
abbrev pub first_of : {A : Type 0} → ℕ → List A → List A
first_of zero xs = []
first_of (suc n) [] = []
first_of (suc n) (x ∷ xs) = x ∷ first_of n xs

-- the state before the event at a place
abbrev pub state_at : Machine → State → List Event → ℕ → State
state_at machine state [] place = state
state_at machine state (event ∷ events) zero = state
state_at machine state (event ∷ events) (suc place) = state_at machine (after machine state event) events place

pub at_start : (machine : Machine) (state : State) (events : List Event) → state_at machine state events 0 ≡ state
at_start machine state [] = refl
at_start machine state (event ∷ events) = refl

pub at_next : (machine : Machine) (state : State) (events : List Event) (place : ℕ) (event : Event) → slice_get events place ≡ Some event →
    state_at machine state events (suc place) ≡ after machine (state_at machine state events place) event
at_next machine state [] place event e = cc
at_next machine state (first ∷ events) zero event e = at_start machine (after machine state first) events ∙ ap (λ o. after machine state (found_or first o)) e
at_next machine state (first ∷ events) (suc place) event e = at_next machine (after machine state first) events place event e

pub at_past : (machine : Machine) (state : State) (events : List Event) (place : ℕ) → slice_get events place ≡ None → state_at machine state events place ≡ happened machine state events
at_past machine state [] place e = refl
at_past machine state (first ∷ events) zero e = cc
at_past machine state (first ∷ events) (suc place) e = at_past machine (after machine state first) events place e

pub at_first : (machine : Machine) (state : State) (events : List Event) (place : ℕ) → state_at machine state events place ≡ happened machine state (first_of place events)
at_first machine state [] zero = refl
at_first machine state [] (suc place) = refl
at_first machine state (first ∷ events) zero = refl
at_first machine state (first ∷ events) (suc place) = at_first machine (after machine state first) events place

pub none_past : {A : Type 0} (xs : List A) (place : ℕ) → length xs ≤ place → slice_get xs place ≡ None
none_past [] place h = refl
none_past (x ∷ xs) zero h = absurd (omega (arith, h))
none_past (x ∷ xs) (suc place) h = none_past xs place (omega (arith, h))

pub past_none : {A : Type 0} (xs : List A) (place : ℕ) → slice_get xs place ≡ None → length xs ≤ place
past_none [] place h = omega arith
past_none (x ∷ xs) zero h = cc
past_none (x ∷ xs) (suc place) h = let r : length xs ≤ place = past_none xs place h in omega (arith, r)

pub some_below : {A : Type 0} (xs : List A) (place : ℕ) → place < length xs → (x : A) × (slice_get xs place ≡ Some x)
some_below [] place h = absurd (omega (arith, h))
some_below (x ∷ xs) zero h = (x, refl)
some_below (x ∷ xs) (suc place) h = some_below xs place (omega (arith, h))

pub found_below : {A : Type 0} (xs : List A) (place : ℕ) (x : A) → slice_get xs place ≡ Some x → place < length xs
found_below [] place x e = cc
found_below (y ∷ xs) zero x e = omega arith
found_below (y ∷ xs) (suc place) x e = let r : place < length xs = found_below xs place x e in omega (arith, r)

pub first-get : {A : Type 0} (n : ℕ) (xs : List A) (k : ℕ) → k < n → slice_get (first_of n xs) k ≡ slice_get xs k
first-get zero xs k h = absurd (omega (arith, h))
first-get (suc n) [] k h = refl
first-get (suc n) (x ∷ xs) zero h = refl
first-get (suc n) (x ∷ xs) (suc k) h = first-get n xs k (omega (arith, h))

pub first-below : {A : Type 0} (n : ℕ) (xs : List A) (k : ℕ) (x : A) → slice_get (first_of n xs) k ≡ Some x → (k < n) × (slice_get xs k ≡ Some x)
first-below zero xs k x e = cc
first-below (suc n) [] k x e = cc
first-below (suc n) (y ∷ xs) zero x e = (omega arith, e)
first-below (suc n) (y ∷ xs) (suc k) x e = let r = first-below n xs k x e in ((let b : k < n = r.0 in omega (arith, b)), r.1)

pub first-state : (machine : Machine) (state : State) (events : List Event) (n k : ℕ) → k ≤ n → state_at machine state (first_of n events) k ≡ state_at machine state events k
first-state machine state events zero zero h = sym (at_start machine state events)
first-state machine state events zero (suc k) h = absurd (omega (arith, h))
first-state machine state [] (suc n) k h = refl
first-state machine state (event ∷ events) (suc n) zero h = refl
first-state machine state (event ∷ events) (suc n) (suc k) h = first-state machine (after machine state event) events n k (omega (arith, h))

pub first-possible : (machine : Machine) (state : State) (events : List Event) (place : ℕ) → all_possible machine state events ≡ true → all_possible machine state (first_of place events) ≡ true
first-possible machine state events zero h = refl
first-possible machine state [] (suc place) h = refl
first-possible machine state (event ∷ events) (suc place) h =
    let both : (possible state event ≡ true) × (all_possible machine (after machine state event) events ≡ true) =
    and-first (possible state event) (all_possible machine (after machine state event) events) h in
    λ i. both.0 i && first-possible machine (after machine state event) events place both.1 i

pub possible_at : (machine : Machine) (state : State) (events : List Event) (place : ℕ) (event : Event) → all_possible machine state events ≡ true → slice_get events place ≡ Some event →
    possible (state_at machine state events place) event ≡ true
possible_at machine state [] place event h e = cc
possible_at machine state (first ∷ events) zero event h e =
    subst (λ ev. possible state ev ≡ true) (ap (found_or first) e) (and-first (possible state first) (all_possible machine (after machine state first) events) h).0
possible_at machine state (first ∷ events) (suc place) event h e =
    possible_at machine (after machine state first) events place event (and-first (possible state first) (all_possible machine (after machine state first) events) h).1 e

-- Notes

pub note_at : (machine : Machine) (earlier : List NotedEvent) (state : State) (events : List Event) (place : ℕ) (event : Event) → slice_get events place ≡ Some event →
    slice_get (new_notes machine earlier state events) place ≡ Some (note_of machine (earlier ++ new_notes machine earlier state (first_of place events)) (state_at machine state events place) event)
note_at machine earlier state [] place event e = cc
note_at machine earlier state (first ∷ events) zero event e = λ i. Some (note_of machine (sym (append-nothing earlier) i) state (found_or first (e i)))
  where
    append-nothing : (xs : List NotedEvent) → xs ++ [] ≡ xs
    append-nothing [] = refl
    append-nothing (x ∷ xs) = ap (λ ys. x ∷ ys) (append-nothing xs)
note_at machine earlier state (first ∷ events) (suc place) event e =
    note_at machine (earlier ++ note_of machine earlier state first ∷ []) (after machine state first) events place event e
    ∙ ap (λ es. Some (note_of machine es (state_at machine (after machine state first) events place) event))
    (append-assoc earlier (note_of machine earlier state first ∷ []) (new_notes machine (earlier ++ note_of machine earlier state first ∷ []) (after machine state first) (first_of place events)))

-- the notes of the events before a place
abbrev pub notes_before : Machine → State → List Event → ℕ → List NotedEvent
notes_before machine state events place = new_notes machine [] state (first_of place events)

-- the note of an event at a place
abbrev pub noted : Machine → State → List Event → ℕ → Event → NotedEvent
noted machine state events place event = note_of machine (notes_before machine state events place) (state_at machine state events place) event

pub note_stands : (machine : Machine) (state : State) (events : List Event) (place : ℕ) (event : Event) → slice_get events place ≡ Some event →
    slice_get (new_notes machine [] state events) place ≡ Some (noted machine state events place event)
note_stands machine state events place event e = note_at machine [] state events place event e

-- a first event with no more than what a cause asks of it
abbrev pub bare : State → Event → NotedEvent
bare before event = record { event = event; before = before; cause = None; process = 0; line = 0 }

changes_input-bare : (machine : Machine) (found : Option FlatNode) (earlier : List NotedEvent) (before : State) (event : Event) →
    changes_input machine found (note_of machine earlier before event) ≡ changes_input machine found (bare before event)
changes_input-bare machine None earlier before event = refl
changes_input-bare machine (Some node) earlier before event = refl

pub may_cause-bare : (machine : Machine) (later : Event) (earlier : List NotedEvent) (before : State) (event : Event) →
    may_cause machine later (note_of machine earlier before event) ≡ may_cause machine later (bare before event)
may_cause-bare machine (Step p) earlier before event = refl
may_cause-bare machine (LaneStep p) earlier before event = refl
may_cause-bare machine (Evaluation n) earlier before event = changes_input-bare machine (slice_get machine.design.nodes n) earlier before event
may_cause-bare machine (NetUpdate n) earlier before event = changes_input-bare machine (slice_get machine.design.nodes n) earlier before event

-- Causes

-- the event at a place may cause a later one
abbrev pub MayCause : Machine → State → List Event → Event → ℕ → Event → Type 0
MayCause machine state events later k event = may_cause machine later (bare (state_at machine state events k) event) ≡ true

abbrev pub MayNot : Machine → State → List Event → Event → ℕ → Event → Type 0
MayNot machine state events later k event = may_cause machine later (bare (state_at machine state events k) event) ≡ false

-- the cause of an event at a place
abbrev pub cause_before : Machine → State → List Event → ℕ → Event → Option ℕ
cause_before machine state events place event = cause_of machine (notes_before machine state events place) event

note-test : (machine : Machine) (state : State) (events : List Event) (place : ℕ) (later : Event) (k : ℕ) (event : Event) → k < place → slice_get events k ≡ Some event →
    (slice_get (notes_before machine state events place) k ≡ Some (noted machine state (first_of place events) k event))
    × (may_cause machine later (noted machine state (first_of place events) k event) ≡ may_cause machine later (bare (state_at machine state events k) event))
note-test machine state events place later k event h e = (
  note_stands machine state (first_of place events) k event (first-get place events k h ∙ e),
  may_cause-bare machine later (notes_before machine state (first_of place events) k) (state_at machine state (first_of place events) k) event
      ∙ ap (λ s. may_cause machine later (bare s event)) (first-state machine state events place k (omega (arith, h))),
)

note-below : (machine : Machine) (state : State) (events : List Event) (place k : ℕ) (note : NotedEvent) → slice_get (notes_before machine state events place) k ≡ Some note →
    (event : Event) × (k < place) × (slice_get events k ≡ Some event)
note-below machine state events place k note e =
    let b : k < length (notes_before machine state events place) = found_below (notes_before machine state events place) k note e in
    let l : length (notes_before machine state events place) ≡ length (first_of place events) = length-new_notes machine [] state (first_of place events) in
    let s = some_below (first_of place events) k (let c : k < length (first_of place events) = omega (arith, b, l) in c) in
    let f = first-below place events k s.0 s.1 in (s.0, f.0, f.1)

-- a cause stands before its event, may cause it, and is the latest that may
pub record IsCause (machine : Machine) (state : State) (events : List Event) (place : ℕ) (later : Event) (k : ℕ) : Type 0 where
  pub event : Event
  pub earlier : k < place
  pub stands : slice_get events k ≡ Some event
  pub may : MayCause machine state events later k event
  pub latest : (l : ℕ) (other : Event) → k < l → l < place → slice_get events l ≡ Some other → MayNot machine state events later l other

some_eq : {A : Type 0} (x y : A) → Some x ≡ Some y → x ≡ y
some_eq x y e = ap (found_or x) e

pub cause_found : (machine : Machine) (state : State) (events : List Event) (place : ℕ) (later : Event) (k : ℕ) → cause_before machine state events place later ≡ Some k →
    IsCause machine state events place later k
cause_found machine state events place later k e =
    let r = last_found (may_cause machine later) (notes_before machine state events place) k e in
    let b = note-below machine state events place k r.0 r.1 in
    let n = note-test machine state events place later k b.0 b.1 b.2 in
    record {
      event = b.0;
      earlier = b.1;
      stands = b.2;
      may = sym n.1 ∙ ap (may_cause machine later) (some_eq (noted machine state (first_of place events) k b.0) r.0 (sym n.0 ∙ r.1)) ∙ r.2;
      latest = λ l other h g f.
          let m = note-test machine state events place later l other g f in
          sym m.1 ∙ r.3 l (noted machine state (first_of place events) l other) h m.0;
    }

pub cause_is : (machine : Machine) (state : State) (events : List Event) (place : ℕ) (later : Event) (k : ℕ) → IsCause machine state events place later k →
    cause_before machine state events place later ≡ Some k
cause_is machine state events place later k c =
    let n = note-test machine state events place later k c.event c.earlier c.stands in
    last_is (may_cause machine later) (notes_before machine state events place) k (
      noted machine state (first_of place events) k c.event,
      n.0,
      n.1 ∙ c.may,
      λ l y h g.
          let b = note-below machine state events place l y g in
          let m = note-test machine state events place later l b.0 b.1 b.2 in
          subst (λ note. may_cause machine later note ≡ false) (some_eq (noted machine state (first_of place events) l b.0) y (sym m.0 ∙ g)) (m.1 ∙ c.latest l b.0 h b.1 b.2),
    )

pub cause_none : (machine : Machine) (state : State) (events : List Event) (place : ℕ) (later : Event) →
    ((l : ℕ) (other : Event) → l < place → slice_get events l ≡ Some other → MayNot machine state events later l other) → cause_before machine state events place later ≡ None
cause_none machine state events place later h =
    last_none (may_cause machine later) (notes_before machine state events place)
    (λ l y g.
    let b = note-below machine state events place l y g in
    let m = note-test machine state events place later l b.0 b.1 b.2 in
    subst (λ note. may_cause machine later note ≡ false) (some_eq (noted machine state (first_of place events) l b.0) y (sym m.0 ∙ g)) (m.1 ∙ h l b.0 b.1 b.2))

pub none_caused : (machine : Machine) (state : State) (events : List Event) (place : ℕ) (later : Event) → cause_before machine state events place later ≡ None →
    (l : ℕ) (other : Event) → l < place → slice_get events l ≡ Some other → MayNot machine state events later l other
none_caused machine state events place later e l other h g =
    let m = note-test machine state events place later l other h g in
    sym m.1 ∙ none_last (may_cause machine later) (notes_before machine state events place) e l (noted machine state (first_of place events) l other) m.0

-- The log

found-mapped : {A B : Type 0} (f : A → B) (b : B) (xs : List A) (place : ℕ) (x : A) → slice_get xs place ≡ Some x → found_or b (slice_get (map f xs) place) ≡ f x
found-mapped f b [] place x e = cc
found-mapped f b (y ∷ xs) zero x e = ap f (ap (found_or y) e)
found-mapped f b (y ∷ xs) (suc place) x e = found-mapped f b xs place x e

pub cause_at-place : (machine : Machine) (state : State) (events : List Event) (place : ℕ) (event : Event) → slice_get events place ≡ Some event →
    cause_at (log_of machine state events) place ≡ cause_before machine state events place event
cause_at-place machine state events place event e =
    cause_at-new machine state events place
    ∙ found-mapped (λ (note : NotedEvent). note.cause) None (new_notes machine [] state events) place (noted machine state events place event) (note_stands machine state events place event e)

-- the accesses of an event at a place
abbrev pub accesses_before : Machine → State → List Event → ℕ → Event → List ObjectAccess
accesses_before machine state events place event =
    accesses_of machine (noted machine state events place event).process (noted machine state events place event).line (state_at machine state events place) event

pub accesses_at-place : (machine : Machine) (state : State) (events : List Event) (place : ℕ) (event : Event) → slice_get events place ≡ Some event →
    accesses_at (log_of machine state events) place ≡ accesses_before machine state events place event
accesses_at-place machine state events place event e =
    accesses_at-new machine state events place
    ∙ found-mapped (λ (note : NotedEvent). accesses_of machine note.process note.line note.before note.event) [] (new_notes machine [] state events) place
    (noted machine state events place event) (note_stands machine state events place event e)
