-- What the moments of a stretch tell of its events.
use Rattle.std.proofs.Common.{◌≡◌, ℕ, zero, suc, ◌+◌, ◌-◌, ◌<◌, ◌≤◌, List, [], ◌∷◌, ◌++◌, map, length, drop, Bool, true, false, not, ◌&&◌, ◌||◌, refl, sym, ap, subst, ◌∙◌, inl, inr, arith}
use Rattle.std.specs.Prelude.{Option, Some, None, slice_get, nat_eq}
use Rattle.std.proofs.lemmas.Bool.{both_ways, or_parts, and_parts, not-true, false_from_ne_true, true_from_ne_false}
use Rattle.std.proofs.lemmas.Option.{slice_get_within}
use Rattle.vf_base.specs.Lists.{AllHold, joined}
use Rattle.v_design.specs.Designs.{FlatDesign, Machine, TestPlan, good_machine}
use Rattle.v_design.specs.States.{State, Event, after}
use Rattle.v_design.specs.Runs.{happened}
use Rattle.v_design.specs.Accesses.{AccessAct, Reading, Writing, Awaiting, Ending, Holding, Settling, ObjectAccess, accesses_of}
use Rattle.v_design.specs.Logs.{LoggedEvent, is_write}
use Rattle.v_design.specs.PhaseLogs.{NotedEvent, note_of, log_of}
use Rattle.copy_laws.specs.Filter.{IsIn}
use Rattle.order_laws.proofs.Conflicts.{In, In-left, In-right}
use Rattle.trace_window.specs.Moments.{Seen, seen_from, phase_seen, window_events}
use Rattle.trace_window.specs.Touched.{is_touching, touches, is_writing, writes, event_touches, event_writes, touched_at, written_at}
use Rattle.block_filter.specs.Blocks.{all_accesses}
use Rattle.block_filter.proofs.Places.{all-in, all-from_in}
use Rattle.block_filter.proofs.Entries.{entries, log_entries, any_writer}
use Rattle.free_objects.specs.Stretches.{NonePasses, IsUnwritten}
use Rattle.lockstep_race.specs.Reads.{ReadsObject, TouchesTellReads}
use Rattle.lockstep_slots.specs.Places.{Place, state_there}
use Rattle.window_places.specs.Windows.{seen_left}
use Rattle.window_tests.specs.Between.{NoMoment, SomeMoment, read_at}
use Rattle.window_tests.specs.Stretches.{IsStretchAt, IsUntouched, IsOnlyWrittenTo, StretchesAreTold}

-- The accesses of an event, whatever write it follows

-- an access that fails a test
abbrev Fails : (ℕ → AccessAct → Bool) → ObjectAccess → Type 0
Fails test access = test access.object access.act ≡ false

both : {A : Type 0} (P : A → Type 0) (xs ys : List A) → AllHold P xs → AllHold P ys → AllHold P (xs ++ ys)
both P [] ys h i = i
both P (x ∷ xs) ys h i = (h.0, both P xs ys h.1 i)

-- where none of an event's accesses passes a test, as the tables see them, none does
any-fails : (test : ℕ → AccessAct → Bool) (machine : Machine) (writer line : ℕ) (state : State) (event : Event) → AllHold (Fails test) (accesses_of machine 0 0 state event) →
    AllHold (Fails test) (accesses_of machine writer line state event)
any-fails test machine writer line state event all =
    all-from_in (Fails test) (accesses_of machine writer line state event)
    (λ access among.
    let like = any_writer machine writer line 0 0 state event access among in
    (λ k. test (sym like.3 k) (sym like.2 k)) ∙ all-in (Fails test) (accesses_of machine 0 0 state event) like.0 all like.1)

-- no access of an event passes a test
abbrev pub SeenFails : (ℕ → AccessAct → Bool) → Machine → Seen → Type 0
SeenFails test machine seen = AllHold (Fails test) (accesses_of machine 0 0 seen.before seen.event)

entries-fail : (test : ℕ → AccessAct → Bool) (machine : Machine) (earlier : List NotedEvent) (state : State) (events : List Event) →
    AllHold (SeenFails test machine) (seen_from machine state events) →
    AllHold (Fails test) (joined (map (λ (event : LoggedEvent). event.accesses) (entries machine earlier state events)))
entries-fail test machine earlier state [] all = tt
entries-fail test machine earlier state (event ∷ events) all =
    let note : NotedEvent = note_of machine earlier state event in
    both (Fails test) (accesses_of machine note.process note.line state event)
    (joined (map (λ (one : LoggedEvent). one.accesses) (entries machine (earlier ++ note ∷ []) (after machine state event) events)))
    (any-fails test machine note.process note.line state event all.0) (entries-fail test machine (earlier ++ note ∷ []) (after machine state event) events all.1)

-- no access of some events passes a test where none of each does
pub none-passes : (test : ℕ → AccessAct → Bool) (machine : Machine) (state : State) (events : List Event) → AllHold (SeenFails test machine) (seen_from machine state events) →
    NonePasses test machine state events
none-passes test machine state events all =
    subst (λ (es : List LoggedEvent). AllHold (Fails test) (joined (map (λ (event : LoggedEvent). event.accesses) es))) (sym (log_entries machine state events))
    (entries-fail test machine [] state events all)

-- What the tables tell of an event

turned : (a b : Bool) → (a && b) ≡ (b && a)
turned true true = refl
turned true false = refl
turned false true = refl
turned false false = refl

no-touch : (object : ℕ) (accesses : List ObjectAccess) → touches object accesses ≡ false → AllHold (Fails (λ other act. nat_eq other object && is_touching act)) accesses
no-touch object [] none = tt
no-touch object (access ∷ rest) none =
    let parts = or_parts (is_touching access.act && nat_eq access.object object) (touches object rest) none in
    (turned (nat_eq access.object object) (is_touching access.act) ∙ parts.0, no-touch object rest parts.1)

same-write : (act : AccessAct) → is_write act ≡ is_writing act
same-write Reading = refl
same-write (Writing old new) = refl
same-write (Awaiting entry) = refl
same-write (Ending entry) = refl
same-write (Holding entry) = refl
same-write Settling = refl

no-write : (object : ℕ) (accesses : List ObjectAccess) → writes object accesses ≡ false → AllHold (Fails (λ other act. nat_eq other object && is_write act)) accesses
no-write object [] none = tt
no-write object (access ∷ rest) none =
    let parts = or_parts (is_writing access.act && nat_eq access.object object) (writes object rest) none in (
      turned (nat_eq access.object object) (is_write access.act) ∙ ap (λ b. b && nat_eq access.object object) (same-write access.act) ∙ parts.0,
      no-write object rest parts.1,
    )

pub touched-here : (machine : Machine) (events : List Seen) (object moment : ℕ) (seen : Seen) → slice_get events moment ≡ Some seen → touched_at machine events object moment ≡ event_touches machine object seen
touched-here machine events object moment seen here =
    ap (λ (o : Option Seen). elim o as (λ _. Bool) [ None ↦ false | Some one ↦ event_touches machine object one ]) here

pub written-here : (machine : Machine) (events : List Seen) (object moment : ℕ) (seen : Seen) → slice_get events moment ≡ Some seen → written_at machine events object moment ≡ event_writes machine object seen
written-here machine events object moment seen here =
    ap (λ (o : Option Seen). elim o as (λ _. Bool) [ None ↦ false | Some one ↦ event_writes machine object one ]) here

-- the event of a moment that isn't touched
pub untouched-seen : (machine : Machine) (events : List Seen) (object moment : ℕ) (seen : Seen) → slice_get events moment ≡ Some seen → touched_at machine events object moment ≡ false →
    SeenFails (λ other act. nat_eq other object && is_touching act) machine seen
untouched-seen machine events object moment seen here none =
    no-touch object (accesses_of machine 0 0 seen.before seen.event) (sym (touched-here machine events object moment seen here) ∙ none)

-- that isn't written
pub unwritten-seen : (machine : Machine) (events : List Seen) (object moment : ℕ) (seen : Seen) → slice_get events moment ≡ Some seen → written_at machine events object moment ≡ false →
    SeenFails (λ other act. nat_eq other object && is_write act) machine seen
unwritten-seen machine events object moment seen here none =
    no-write object (accesses_of machine 0 0 seen.before seen.event) (sym (written-here machine events object moment seen here) ∙ none)

write-or-none : (t w : Bool) → (t && not w) ≡ false → t ≡ true → w ≡ true
write-or-none true true e t = refl
write-or-none true false e t = absurd (cc)
write-or-none false w e t = absurd (cc)

-- that isn't read
pub unread-seen : (machine : Machine) (events : List Seen) (object moment : ℕ) (seen : Seen) → slice_get events moment ≡ Some seen → read_at machine events object moment ≡ false →
    event_touches machine object seen ≡ true → event_writes machine object seen ≡ true
unread-seen machine events object moment seen here none touched =
    sym (written-here machine events object moment seen here)
    ∙ write-or-none (touched_at machine events object moment) (written_at machine events object moment) none (touched-here machine events object moment seen here ∙ touched)

-- The moments of some events

get-dropped : {A : Type 0} (xs : List A) (first number : ℕ) → slice_get (drop first xs) number ≡ slice_get xs (first + number)
get-dropped xs zero number = let z : number ≡ 0 + number = omega arith in ap (slice_get xs) z
get-dropped [] (suc first) number = refl
get-dropped (x ∷ xs) (suc first) number = let z : suc (first + number) ≡ suc first + number = omega arith in get-dropped xs first number ∙ ap (slice_get (x ∷ xs)) z

get-joined : {A : Type 0} (xs ys : List A) (number : ℕ) (x : A) → slice_get xs number ≡ Some x → slice_get (xs ++ ys) number ≡ Some x
get-joined [] ys number x e = absurd (cc)
get-joined (y ∷ xs) ys zero x e = e
get-joined (y ∷ xs) ys (suc number) x e = get-joined xs ys number x e

pub seen-first : (machine : Machine) (state : State) (events more : List Event) (number : ℕ) (seen : Seen) → slice_get (seen_from machine state events) number ≡ Some seen →
    slice_get (seen_from machine state (events ++ more)) number ≡ Some seen
seen-first machine state [] more number seen here = absurd (cc)
seen-first machine state (event ∷ events) more zero seen here = here
seen-first machine state (event ∷ events) more (suc number) seen here = seen-first machine (after machine state event) events more number seen here

pub seen-behind : (machine : Machine) (state : State) (events more : List Event) (number : ℕ) →
    slice_get (seen_from machine (happened machine state events) more) number ≡ slice_get (seen_from machine state (events ++ more)) (length events + number)
seen-behind machine state [] more number = let z : number ≡ 0 + number = omega arith in ap (slice_get (seen_from machine state more)) z
seen-behind machine state (event ∷ events) more number =
    let z : suc (length events + number) ≡ suc (length events) + number = omega arith in
    seen-behind machine (after machine state event) events more number ∙ ap (slice_get (seen_from machine state ((event ∷ events) ++ more))) z

seen-length : (machine : Machine) (state : State) (events : List Event) → length (seen_from machine state events) ≡ length events
seen-length machine state [] = refl
seen-length machine state (event ∷ events) = ap suc (seen-length machine (after machine state event) events)

-- some events, from a state on, are those of a list from a moment on
abbrev pub AreFrom : Machine → List Seen → ℕ → State → List Event → Type 0
AreFrom machine all first state events = (number : ℕ) (seen : Seen) → slice_get (seen_from machine state events) number ≡ Some seen → slice_get all (first + number) ≡ Some seen

-- the next events at a place are those of the window from its moment on
pub stretch-from : (design : FlatDesign) (plan : TestPlan) (begins ends first : ℕ) (place : Place) (events : List Event) → IsStretchAt design plan begins ends first place events →
    AreFrom (good_machine design) (window_events design plan begins ends) first (state_there (good_machine design) place) events
stretch-from design plan begins ends first place events stretch number seen here =
    let left : slice_get (seen_from (good_machine design) (state_there (good_machine design) place) place.left) number ≡ Some seen =
    ap (λ (l : List Event). slice_get (seen_from (good_machine design) (state_there (good_machine design) place) l) number) stretch.left
    ∙ seen-first (good_machine design) (state_there (good_machine design) place) events stretch.more number seen here in
    sym (get-dropped (window_events design plan begins ends) first number)
    ∙ ap (λ (l : List Seen). slice_get l number) stretch.at.seen_are
    ∙ get-joined (seen_left design place) stretch.at.others number seen
    (get-joined (seen_from (good_machine design) (state_there (good_machine design) place) place.left) (joined (map (phase_seen (good_machine design)) place.later)) number seen left)

all-numbered : {A : Type 0} (P : A → Type 0) (xs : List A) → ((number : ℕ) (x : A) → slice_get xs number ≡ Some x → P x) → AllHold P xs
all-numbered P [] h = tt
all-numbered P (x ∷ xs) h = (h zero x refl, all-numbered P xs (λ number y e. h (suc number) y e))

-- a fact of the event of each of their moments is one of each of them
pub each-seen : (P : Seen → Type 0) (machine : Machine) (all : List Seen) (first : ℕ) (state : State) (events : List Event) → AreFrom machine all first state events →
    ((moment : ℕ) (seen : Seen) → first ≤ moment → moment < first + length events → slice_get all moment ≡ Some seen → P seen) → AllHold P (seen_from machine state events)
each-seen P machine all first state events from each =
    all-numbered P (seen_from machine state events)
    (λ number seen here.
    let low : number < length (seen_from machine state events) = slice_get_within (seen_from machine state events) number seen here in
    each (first + number) seen (omega arith) (omega (arith, low, seen-length machine state events)) (from number seen here))

-- Reads

is-in : {A : Type 0} (x : A) (xs : List A) → IsIn x xs → In x xs
is-in x [] among = among
is-in x (y ∷ xs) (inl same) = inl same
is-in x (y ∷ xs) (inr rest) = inr (is-in x xs rest)

in-is : {A : Type 0} (x : A) (xs : List A) → In x xs → IsIn x xs
in-is x [] among = among
in-is x (y ∷ xs) (inl same) = inl same
in-is x (y ∷ xs) (inr rest) = inr (in-is x xs rest)

-- among the accesses of an event's log entry
reads-any : (machine : Machine) (writer line : ℕ) (state : State) (event : Event) (object : ℕ) → ReadsObject (accesses_of machine 0 0 state event) object →
    ReadsObject (accesses_of machine writer line state event) object
reads-any machine writer line state event object found =
    let like = any_writer machine 0 0 writer line state event found.access (is-in found.access (accesses_of machine 0 0 state event) found.is_in) in
    record { access = like.0; is_in = in-is like.0 (accesses_of machine writer line state event) like.1; object_is = like.3 ∙ found.object_is; reads = like.2 ∙ found.reads }

reads-first : (xs ys : List ObjectAccess) (object : ℕ) → ReadsObject xs object → ReadsObject (xs ++ ys) object
reads-first xs ys object found =
    record { access = found.access; is_in = in-is found.access (xs ++ ys) (In-left found.access xs ys (is-in found.access xs found.is_in)); object_is = found.object_is; reads = found.reads }

reads-rest : (xs ys : List ObjectAccess) (object : ℕ) → ReadsObject ys object → ReadsObject (xs ++ ys) object
reads-rest xs ys object found =
    record { access = found.access; is_in = in-is found.access (xs ++ ys) (In-right found.access xs ys (is-in found.access ys found.is_in)); object_is = found.object_is; reads = found.reads }

entries-read : (machine : Machine) (earlier : List NotedEvent) (state : State) (events : List Event) (object number : ℕ) (seen : Seen) →
    slice_get (seen_from machine state events) number ≡ Some seen → ReadsObject (accesses_of machine 0 0 seen.before seen.event) object →
    ReadsObject (joined (map (λ (event : LoggedEvent). event.accesses) (entries machine earlier state events))) object
entries-read machine earlier state [] object number seen here found = absurd (cc)
entries-read machine earlier state (event ∷ events) object zero seen here found =
    let note : NotedEvent = note_of machine earlier state event in
    reads-first (accesses_of machine note.process note.line state event)
    (joined (map (λ (one : LoggedEvent). one.accesses) (entries machine (earlier ++ note ∷ []) (after machine state event) events))) object
    (reads-any machine note.process note.line state event object
    (subst (λ (s : Seen). ReadsObject (accesses_of machine 0 0 s.before s.event) object) (same-seen (record { before = state; event = event }) seen here) found))
  where
    same-seen : (one other : Seen) → Some one ≡ Some other → other ≡ one
    same-seen one other e = cc
entries-read machine earlier state (event ∷ events) object (suc number) seen here found =
    let note : NotedEvent = note_of machine earlier state event in
    reads-rest (accesses_of machine note.process note.line state event)
    (joined (map (λ (one : LoggedEvent). one.accesses) (entries machine (earlier ++ note ∷ []) (after machine state event) events))) object
    (entries-read machine (earlier ++ note ∷ []) (after machine state event) events object number seen here found)

some_below : {A : Type 0} (xs : List A) (number : ℕ) → number < length xs → (x : A) × (slice_get xs number ≡ Some x)
some_below [] number low = absurd (omega arith)
some_below (x ∷ xs) zero low = (x, refl)
some_below (x ∷ xs) (suc number) low = some_below xs number (omega arith)

-- The laws

untouched : (design : FlatDesign) (plan : TestPlan) (begins ends first : ℕ) (place : Place) (events : List Event) (object : ℕ) → IsStretchAt design plan begins ends first place events →
    NoMoment (touched_at (good_machine design) (window_events design plan begins ends) object) first (first + length events) →
    IsUntouched (good_machine design) (state_there (good_machine design) place) events object
untouched design plan begins ends first place events object stretch none =
    none-passes (λ other act. nat_eq other object && is_touching act) (good_machine design) (state_there (good_machine design) place) events
    (each-seen (SeenFails (λ other act. nat_eq other object && is_touching act) (good_machine design)) (good_machine design) (window_events design plan begins ends) first
    (state_there (good_machine design) place) events (stretch-from design plan begins ends first place events stretch)
    (λ moment seen since before here.
    untouched-seen (good_machine design) (window_events design plan begins ends) object moment seen here (none moment since before)))

unwritten : (design : FlatDesign) (plan : TestPlan) (begins ends first : ℕ) (place : Place) (events : List Event) (object : ℕ) → IsStretchAt design plan begins ends first place events →
    NoMoment (written_at (good_machine design) (window_events design plan begins ends) object) first (first + length events) →
    IsUnwritten (good_machine design) (state_there (good_machine design) place) events object
unwritten design plan begins ends first place events object stretch none =
    none-passes (λ other act. nat_eq other object && is_write act) (good_machine design) (state_there (good_machine design) place) events
    (each-seen (SeenFails (λ other act. nat_eq other object && is_write act) (good_machine design)) (good_machine design) (window_events design plan begins ends) first
    (state_there (good_machine design) place) events (stretch-from design plan begins ends first place events stretch)
    (λ moment seen since before here.
    unwritten-seen (good_machine design) (window_events design plan begins ends) object moment seen here (none moment since before)))

unread : (design : FlatDesign) (plan : TestPlan) (begins ends first : ℕ) (place : Place) (events : List Event) (object : ℕ) → IsStretchAt design plan begins ends first place events →
    NoMoment (read_at (good_machine design) (window_events design plan begins ends) object) first (first + length events) →
    IsOnlyWrittenTo (good_machine design) (state_there (good_machine design) place) events object
unread design plan begins ends first place events object stretch none =
    each-seen (λ (seen : Seen). event_touches (good_machine design) object seen ≡ true → event_writes (good_machine design) object seen ≡ true) (good_machine design)
    (window_events design plan begins ends) first (state_there (good_machine design) place) events (stretch-from design plan begins ends first place events stretch)
    (λ moment seen since before here.
    unread-seen (good_machine design) (window_events design plan begins ends) object moment seen here (none moment since before))

reads : TouchesTellReads → (design : FlatDesign) (plan : TestPlan) (begins ends first : ℕ) (place : Place) (events : List Event) (object : ℕ) →
    IsStretchAt design plan begins ends first place events →
    SomeMoment (read_at (good_machine design) (window_events design plan begins ends) object) first (first + length events) →
    ReadsObject (all_accesses (log_of (good_machine design) (state_there (good_machine design) place) events)) object
reads tell design plan begins ends first place events object stretch some =
    let machine = good_machine design in
    let state = state_there (good_machine design) place in
    let number : ℕ = some.moment - first in
    let at : first + (some.moment - first) ≡ some.moment = omega (arith, some.since) in
    let low : some.moment - first < length (seen_from (good_machine design) (state_there (good_machine design) place) events) =
    omega (arith, some.since, some.before, seen-length (good_machine design) (state_there (good_machine design) place) events) in
    let there = some_below (seen_from (good_machine design) (state_there (good_machine design) place) events) (some.moment - first) low in
    let here : slice_get (window_events design plan begins ends) some.moment ≡ Some there.0 =
    ap (slice_get (window_events design plan begins ends)) (sym at) ∙ stretch-from design plan begins ends first place events stretch (some.moment - first) there.0 there.1 in
    let parts = and_parts (touched_at (good_machine design) (window_events design plan begins ends) object some.moment)
    (not (written_at (good_machine design) (window_events design plan begins ends) object some.moment)) some.passes in
    subst (λ (es : List LoggedEvent). ReadsObject (joined (map (λ (event : LoggedEvent). event.accesses) es)) object)
    (sym (log_entries (good_machine design) (state_there (good_machine design) place) events))
    (entries-read (good_machine design) [] (state_there (good_machine design) place) events object (some.moment - first) there.0 there.1
    (tell (good_machine design) object there.0
    (sym (touched-here (good_machine design) (window_events design plan begins ends) object some.moment there.0 here) ∙ parts.0)
    (sym (written-here (good_machine design) (window_events design plan begins ends) object some.moment there.0 here)
    ∙ not-true (written_at (good_machine design) (window_events design plan begins ends) object some.moment) parts.1)))

pub stretches_are_told : TouchesTellReads → StretchesAreTold
stretches_are_told tell = record { untouched = untouched; unwritten = unwritten; unread = unread; reads = reads tell }
