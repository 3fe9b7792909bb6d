-- What is gathered of a window's events.
use Rattle.std.proofs.Common.{◌≡◌, ℕ, zero, suc, ◌+◌, ◌<◌, ◌≤◌, true, false, List, [], ◌∷◌, ◌++◌, map, length, get_or, take, refl, sym, ap, subst, ◌∙◌, arith, append-nil, append_assoc}
use Rattle.std.specs.Prelude.{Option, Some, None, IsSome}
use Rattle.std.specs.List.{AllZip}
use Rattle.std.proofs.lemmas.List.{take_more, take_all, map_push, length-map}
use Rattle.std.proofs.lemmas.Option.{slice_get-get_or}
use Rattle.vf_base.specs.declared.finding.AccessKind.{AccessKind}
use Rattle.vf_base.specs.declared.finding.AccessKind.TheVariants.{Read, Write, Await, Ended, Held, Settle}
use Rattle.vf_base.specs.Lists.{joined, AllHold}
use Rattle.four_value.specs.Values.{LogicValue}
use Rattle.v_design.specs.Trees.{Entry}
use Rattle.v_design.specs.States.{Event, found_or}
use Rattle.v_design.specs.Accesses.{AccessAct, Reading, Writing, Awaiting, Ending, Holding, Settling, ObjectAccess}
use Rattle.v_design.specs.Logs.{LoggedEvent}
use Rattle.vf_base.specs.Base.{object_number}
use Rattle.causal_monitor.specs.declared.noted.Noted.{Noted}
use Rattle.causal_monitor.specs.Notes.{value_or_none, entry_on, act_of, HasParts, noted_access}
use Rattle.causal_monitor.specs.Phases.{PhaseOfSlot, accesses_at}
use Rattle.causal_monitor.specs.declared.noted.WaitEdge.{WaitEdge}
use Rattle.causal_monitor.specs.declared.slot.Actor.{Actor}
use Rattle.slot_record.specs.Records.{event_of}
use Rattle.window_index.specs.declared.occurrence.Occurrence.{Occurrence}
use Rattle.trace_window.specs.Kinds.{is_write, is_touch}
use Rattle.trace_window.specs.Touched.{touch_before, touches_in}
use Rattle.trace_window.specs.Writes.{Written, write_before, writes_in}
use Rattle.trace_window.specs.Listed.{phase_accesses}

-- One access

-- a write has a new value
pub write-has : (kind : AccessKind) (old new : Option LogicValue) (entry : Option WaitEdge) → HasParts kind old new entry → is_write kind ≡ true → IsSome new
write-has Read old new entry h e = cc
write-has Write None new entry h e = absurd h
write-has Write (Some v) None entry h e = absurd h
write-has Write (Some v) (Some w) entry h e = refl
write-has Await old new entry h e = cc
write-has Ended old new entry h e = cc
write-has Held old new entry h e = cc
write-has Settle old new entry h e = cc

pub write-is : (moment object : ℕ) (kind : AccessKind) (old new : Option LogicValue) (entry : Entry) (value : LogicValue) → is_write kind ≡ true → new ≡ Some value →
    write_before moment object (act_of kind old new entry) [] ≡ record { moment = moment; object = object; value = value } ∷ []
write-is moment object Read old new entry value e h = cc
write-is moment object Write old new entry value e h = ap (λ n. record { moment = moment; object = object; value = value_or_none n } ∷ []) h
write-is moment object Await old new entry value e h = cc
write-is moment object Ended old new entry value e h = cc
write-is moment object Held old new entry value e h = cc
write-is moment object Settle old new entry value e h = cc

pub write-none : (moment object : ℕ) (kind : AccessKind) (old new : Option LogicValue) (entry : Entry) → is_write kind ≡ false → write_before moment object (act_of kind old new entry) [] ≡ []
write-none moment object Read old new entry e = refl
write-none moment object Write old new entry e = cc
write-none moment object Await old new entry e = refl
write-none moment object Ended old new entry e = refl
write-none moment object Held old new entry e = refl
write-none moment object Settle old new entry e = refl

-- an access that touches nothing, and one that does
pub touch-is : (moment object : ℕ) (kind : AccessKind) (old new : Option LogicValue) (entry : Entry) → is_touch kind ≡ true →
    touch_before moment object (act_of kind old new entry) [] ≡ record { number = object; moment = moment } ∷ []
touch-is moment object Read old new entry e = refl
touch-is moment object Write old new entry e = refl
touch-is moment object Await old new entry e = cc
touch-is moment object Ended old new entry e = cc
touch-is moment object Held old new entry e = cc
touch-is moment object Settle old new entry e = cc

pub touch-none : (moment object : ℕ) (kind : AccessKind) (old new : Option LogicValue) (entry : Entry) → is_touch kind ≡ false → touch_before moment object (act_of kind old new entry) [] ≡ []
touch-none moment object Read old new entry e = cc
touch-none moment object Write old new entry e = cc
touch-none moment object Await old new entry e = refl
touch-none moment object Ended old new entry e = refl
touch-none moment object Held old new entry e = refl
touch-none moment object Settle old new entry e = refl

touch-append : (moment object : ℕ) (act : AccessAct) (xs ys : List Occurrence) → touch_before moment object act (xs ++ ys) ≡ touch_before moment object act xs ++ ys
touch-append moment object Reading xs ys = refl
touch-append moment object (Writing old new) xs ys = refl
touch-append moment object (Awaiting entry) xs ys = refl
touch-append moment object (Ending entry) xs ys = refl
touch-append moment object (Holding entry) xs ys = refl
touch-append moment object Settling xs ys = refl

pub touches_in-append : (moment : ℕ) (xs ys : List ObjectAccess) → touches_in moment (xs ++ ys) ≡ touches_in moment xs ++ touches_in moment ys
touches_in-append moment [] ys = refl
touches_in-append moment (x ∷ xs) ys = ap (λ l. touch_before moment x.object x.act l) (touches_in-append moment xs ys)
    ∙ touch-append moment x.object x.act (touches_in moment xs) (touches_in moment ys)

before-append : (moment object : ℕ) (act : AccessAct) (xs ys : List Written) → write_before moment object act (xs ++ ys) ≡ write_before moment object act xs ++ ys
before-append moment object Reading xs ys = refl
before-append moment object (Writing old new) xs ys = refl
before-append moment object (Awaiting entry) xs ys = refl
before-append moment object (Ending entry) xs ys = refl
before-append moment object (Holding entry) xs ys = refl
before-append moment object Settling xs ys = refl

pub writes_in-append : (moment : ℕ) (xs ys : List ObjectAccess) → writes_in moment (xs ++ ys) ≡ writes_in moment xs ++ writes_in moment ys
writes_in-append moment [] ys = refl
writes_in-append moment (x ∷ xs) ys = ap (λ l. write_before moment x.object x.act l) (writes_in-append moment xs ys) ∙ before-append moment x.object x.act (writes_in moment xs) (writes_in moment ys)

-- The accesses of an event

-- a fact of the element at a place
pub hold-at : {A : Type 0} (P : A → Type 0) (xs : List A) (i : ℕ) (x : A) → AllHold P xs → i < length xs → x ≡ get_or xs i x → P x
hold-at P [] i x h low read = absurd (omega arith)
hold-at P (y ∷ xs) zero x h low read = subst P (sym read) h.0
hold-at P (y ∷ xs) (suc i) x h low read = hold-at P xs i x h.1 (omega arith) read

pub noted-write : (moment : ℕ) (noted : Noted) (value : LogicValue) → is_write noted.access.kind ≡ true → noted.new ≡ Some value →
    writes_in moment (noted_access noted ∷ []) ≡ record { moment = moment; object = object_number noted.access.object; value = value } ∷ []
noted-write moment noted value e h = write-is moment (object_number noted.access.object) noted.access.kind noted.old noted.new (entry_on (object_number noted.access.object) noted.entry) value e h

pub noted-none : (moment : ℕ) (noted : Noted) → is_write noted.access.kind ≡ false → writes_in moment (noted_access noted ∷ []) ≡ []
noted-none moment noted e = write-none moment (object_number noted.access.object) noted.access.kind noted.old noted.new (entry_on (object_number noted.access.object) noted.entry) e

pub noted-touch : (moment : ℕ) (noted : Noted) → is_touch noted.access.kind ≡ true → touches_in moment
    (noted_access noted ∷ []) ≡ record { number = object_number noted.access.object; moment = moment } ∷ []
noted-touch moment noted e = touch-is moment (object_number noted.access.object) noted.access.kind noted.old noted.new (entry_on (object_number noted.access.object) noted.entry) e

pub noted-untouched : (moment : ℕ) (noted : Noted) → is_touch noted.access.kind ≡ false → touches_in moment (noted_access noted ∷ []) ≡ []
noted-untouched moment noted e = touch-none moment (object_number noted.access.object) noted.access.kind noted.old noted.new (entry_on (object_number noted.access.object) noted.entry) e

noted-more : (xs : List Noted) (i : ℕ) (x : Noted) → i < length xs → x ≡ get_or xs i x → map noted_access (take (i + 1) xs) ≡ map noted_access (take i xs) ++ noted_access x ∷ []
noted-more xs i x low read = ap (map noted_access) (take_more xs i x low ∙ ap (λ y. take i xs ++ y ∷ []) (sym read)) ∙ map_push noted_access (take i xs) x

-- one access more
pub writes_in-more : (moment : ℕ) (xs : List Noted) (i : ℕ) (x : Noted) → i < length xs → x ≡ get_or xs i x →
    writes_in moment (map noted_access (take (i + 1) xs)) ≡ writes_in moment (map noted_access (take i xs)) ++ writes_in moment (noted_access x ∷ [])
writes_in-more moment xs i x low read = ap (writes_in moment) (noted-more xs i x low read) ∙ writes_in-append moment (map noted_access (take i xs)) (noted_access x ∷ [])

pub touches_in-more : (moment : ℕ) (xs : List Noted) (i : ℕ) (x : Noted) → i < length xs → x ≡ get_or xs i x →
    touches_in moment (map noted_access (take (i + 1) xs)) ≡ touches_in moment (map noted_access (take i xs)) ++ touches_in moment (noted_access x ∷ [])
touches_in-more moment xs i x low read = ap (touches_in moment) (noted-more xs i x low read) ∙ touches_in-append moment (map noted_access (take i xs)) (noted_access x ∷ [])

-- a list that grew, and grows again
pub grown-more : {A : Type 0} (start now next one taken more : List A) → now ≡ start ++ taken → next ≡ now ++ one → more ≡ taken ++ one → next ≡ start ++ more
grown-more start now next one taken more had grown all = grown ∙ ap (λ l. l ++ one) had ∙ append_assoc start taken one ∙ ap (λ l. start ++ l) (sym all)

-- Events

-- phases one after another
joined-append : {A : Type 0} (xs ys : List (List A)) → joined (xs ++ ys) ≡ joined xs ++ joined ys
joined-append [] ys = refl
joined-append (x ∷ xs) ys = ap (λ l. x ++ l) (joined-append xs ys) ∙ sym (append_assoc x (joined xs) (joined ys))

pub slot_accesses-more : (phases : List PhaseOfSlot) (i : ℕ) (phase : PhaseOfSlot) → i < length phases → phase ≡ get_or phases i phase →
    joined (map phase_accesses (take (i + 1) phases)) ≡ joined (map phase_accesses (take i phases)) ++ phase_accesses phase
slot_accesses-more phases i phase low read =
    ap (λ l. joined (map phase_accesses l)) (take_more phases i phase low ∙ ap (λ p. take i phases ++ p ∷ []) (sym read))
    ∙ ap joined (map_push phase_accesses (take i phases) phase) ∙ joined-append (map phase_accesses (take i phases)) (phase_accesses phase ∷ [])
    ∙ ap (λ l. joined (map phase_accesses (take i phases)) ++ l) (append-nil (phase_accesses phase))

-- one event more of a phase
pub phase_accesses-more : (phase : PhaseOfSlot) (event : ℕ) → event < length phase.log.events →
    take (event + 1) (phase_accesses phase) ≡ take event (phase_accesses phase) ++ accesses_at phase.log event ∷ []
phase_accesses-more phase event low =
    let long : length (phase_accesses phase) ≡ length phase.log.events = length-map phase.log.events (λ (e : LoggedEvent). e.accesses) in
    take_more (phase_accesses phase) event [] (omega arith) ∙ ap (λ a. take event (phase_accesses phase) ++ a ∷ [])
    (sym (ap (found_or []) (slice_get-get_or (phase_accesses phase) event [] (omega arith))))

-- all of them
pub phase_accesses-all : (phase : PhaseOfSlot) (event : ℕ) → length phase.log.events ≤ event → take event (phase_accesses phase) ≡ phase_accesses phase
phase_accesses-all phase event past = take_all event (phase_accesses phase)
    (let long : length (phase_accesses phase) ≡ length phase.log.events = length-map phase.log.events (λ (e : LoggedEvent). e.accesses) in omega arith)

-- who acts in one event more
pub actors-more : (actors : List Actor) (i : ℕ) (d : Actor) → i < length actors → map event_of (take (i + 1) actors) ≡ map event_of (take i actors) ++ event_of (get_or actors i d) ∷ []
actors-more actors i d low = ap (map event_of) (take_more actors i d low) ∙ map_push event_of (take i actors) (get_or actors i d)

-- the events of one phase more
pub slot_events-more : (actors : List (List Actor)) (i : ℕ) (own : List Actor) → i < length actors → own ≡ get_or actors i own →
    joined (map (λ (a : List Actor). map event_of a) (take (i + 1) actors)) ≡ joined (map (λ (a : List Actor). map event_of a) (take i actors)) ++ map event_of own
slot_events-more actors i own low read =
    ap (λ l. joined (map events l)) (take_more actors i own low ∙ ap (λ a. take i actors ++ a ∷ []) (sym read))
    ∙ ap joined (map_push events (take i actors) own) ∙ joined-append (map events (take i actors)) (map event_of own ∷ [])
    ∙ ap (λ l. joined (map events (take i actors)) ++ l) (append-nil (map event_of own))
  where
    events : List Actor → List Event
    events a = map event_of a

-- what holds of two lists place by place
pub zip-at : {A B : Type 0} (R : A → B → Type 0) (xs : List A) (ys : List B) (i : ℕ) (x : A) (y : B) → AllZip R xs ys → i < length xs → x ≡ get_or xs i x → y ≡ get_or ys i y → R x y
zip-at R [] ys i x y all low at here = absurd (omega arith)
zip-at R (a ∷ xs) [] i x y all low at here = absurd all
zip-at R (a ∷ xs) (b ∷ ys) zero x y all low at here = subst (λ z. R z y) (sym at) (subst (λ z. R a z) (sym here) all.0)
zip-at R (a ∷ xs) (b ∷ ys) (suc i) x y all low at here = zip-at R xs ys i x y all.1 (omega arith) at here
