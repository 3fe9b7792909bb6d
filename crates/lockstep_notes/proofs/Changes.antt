-- What blocks of both machines change stands among the objects that are noted as written, and reaches suspect net pieces alone.
use Rattle.std.proofs.Common.{◌≡◌, ℕ, ◌<◌, List, [], ◌∷◌, ◌++◌, map, Bool, true, false, not, ◌||◌, ◌&&◌, refl, sym, ap, subst, ◌∙◌, inl, inr, arith, nat_eq}
use Rattle.std.specs.Prelude.{◌⊎◌, nat_lt}
use Rattle.std.specs.List.{list_any}
use Rattle.std.proofs.lemmas.Bool.{eqb-true, eq-eqb, lt-ltb}
use Rattle.vf_base.specs.Lists.{AllHold, has, joined}
use Rattle.four_value.specs.Values.{LogicValue, same_value}
use Rattle.v_design.specs.Paths.{paths, net_pieces}
use Rattle.v_design.specs.Designs.{FlatDesign, Machine}
use Rattle.v_design.specs.States.{State, Event, after}
use Rattle.v_design.specs.Accesses.{AccessAct, Reading, Writing, Awaiting, Ending, Holding, Settling, ObjectAccess, accesses_of}
use Rattle.v_design.specs.Logs.{LoggedEvent, LoggedPhase, change_of, changes_of, is_write, phase_changes}
use Rattle.v_design.specs.PhaseLogs.{NotedEvent, note_of, noted_events, logged, log_of}
use Rattle.trace_window.specs.Moments.{Seen as SeenEvent, seen_from}
use Rattle.trace_window.specs.Touched.{is_writing, writes, event_writes}
use Rattle.order_laws.proofs.Conflicts.{In}
use Rattle.order_laws.proofs.Notes.{new_notes, noted_events-new}
use Rattle.block_filter.specs.Blocks.{all_accesses, ReachesSuspects}
use Rattle.block_filter.proofs.Entries.{any_writer}
use Rattle.race_notes.specs.Notes.{writes_beside, note_at, NotesKept}
use Rattle.race_notes.proofs.Lists.{all-joined, all-weaker}
use Rattle.race_notes.proofs.Noted.{or-left, or-right}
use Rattle.lockstep_notes.specs.Notes.{some_reaches, marks_of}

-- Tests of lists

pub any-has : (test : ℕ → Bool) (xs : List ℕ) (x : ℕ) → has xs x ≡ true → test x ≡ true → list_any test xs ≡ true
any-has test [] x there holds = cc
any-has test (y ∷ xs) x there holds = go (nat_eq y x) refl there (λ more. any-has test xs x more holds)
  where
    go : (b : Bool) → nat_eq y x ≡ b → (b || has xs x) ≡ true → (has xs x ≡ true → list_any test xs ≡ true) → list_any test (y ∷ xs) ≡ true
    go true e there rest = or-left (test y) (list_any test xs) (ap test (eqb-true y x e) ∙ holds)
    go false e there rest = or-right (test y) (list_any test xs) (rest there)

pub any-longer : (test : ℕ → Bool) (old new : List ℕ) → ((x : ℕ) → has old x ≡ true → has new x ≡ true) → list_any test old ≡ true → list_any test new ≡ true
any-longer test [] new longer holds = cc
any-longer test (y ∷ old) new longer holds = go (test y) refl holds (λ more. any-longer test old new (λ x there. longer x (or-right (nat_eq y x) (has old x) there)) more)
  where
    go : (b : Bool) → test y ≡ b → (b || list_any test old) ≡ true → (list_any test old ≡ true → list_any test new ≡ true) → list_any test new ≡ true
    go true e holds rest = any-has test new y (longer y (or-left (nat_eq y y) (has old y) (eq-eqb y y refl))) e
    go false e holds rest = rest holds

-- What is changed is written

changed-one : (P : ℕ → Type 0) (design : FlatDesign) (object : ℕ) (b : Bool) → P object → AllHold P (elim b as (λ _. List ℕ) [ true ↦ [] | false ↦ object ∷ [] ])
changed-one P design object true holds = tt
changed-one P design object false holds = (holds, tt)

change-each : (P : ℕ → Type 0) (design : FlatDesign) (act : AccessAct) (object : ℕ) → (is_write act ≡ true → P object) → AllHold P (change_of design act object)
change-each P design Reading object holds = tt
change-each P design (Writing old new) object holds = changed-one P design object (same_value old new || has (net_pieces design) object) (holds refl)
change-each P design (Awaiting entry) object holds = tt
change-each P design (Ending entry) object holds = tt
change-each P design (Holding entry) object holds = tt
change-each P design Settling object holds = tt

-- a fact of each object that some access writes is one of each that is changed
changes-each : (P : ℕ → Type 0) (design : FlatDesign) (accesses : List ObjectAccess) → ((access : ObjectAccess) → In access accesses → is_write access.act ≡ true → P access.object) →
    AllHold P (changes_of design accesses)
changes-each P design [] holds = tt
changes-each P design (access ∷ accesses) holds =
    all-joined P (change_of design access.act access.object) (changes_of design accesses) (change-each P design access.act access.object (λ writes. holds access (inl refl) writes))
    (changes-each P design accesses (λ other there writes. holds other (inr there) writes))

-- The faulty machine's block

all-front : {A : Type 0} (P : A → Type 0) (xs ys : List A) → AllHold P (xs ++ ys) → AllHold P xs
all-front P [] ys all = tt
all-front P (x ∷ xs) ys all = (all.0, all-front P xs ys all.1)

pub all-rest : {A : Type 0} (P : A → Type 0) (xs ys : List A) → AllHold P (xs ++ ys) → AllHold P ys
all-rest P [] ys all = all
all-rest P (x ∷ xs) ys all = all-rest P xs ys all.1

all-in : {A : Type 0} (P : A → Type 0) (xs : List A) (x : A) → AllHold P xs → In x xs → P x
all-in P [] x all there = absurd there
all-in P (y ∷ xs) x all (inl e) = subst P (sym e) all.0
all-in P (y ∷ xs) x all (inr there) = all-in P xs x all.1 there

-- an access writes no object but listed ones
abbrev IsListed : List ℕ → ObjectAccess → Type 0
IsListed changed access = writes_beside changed access.object access.act ≡ false

listed-if : (changed : List ℕ) (access : ObjectAccess) → IsListed changed access → is_write access.act ≡ true → has changed access.object ≡ true
listed-if changed access none writes = not-not (has changed access.object) (sym (ap (λ b. b && not (has changed access.object)) writes) ∙ none)
  where
    not-not : (b : Bool) → not b ≡ false → b ≡ true
    not-not true e = refl
    not-not false e = cc

events-listed : (design : FlatDesign) (changed : List ℕ) (events : List LoggedEvent) → AllHold (IsListed changed) (joined (map (λ (event : LoggedEvent). event.accesses) events)) →
    AllHold (λ object. has changed object ≡ true) (joined (map (λ (event : LoggedEvent). changes_of design event.accesses) events))
events-listed design changed [] all = tt
events-listed design changed (event ∷ events) all =
    let rest = joined (map (λ (one : LoggedEvent). one.accesses) events) in
    all-joined (λ object. has changed object ≡ true) (changes_of design event.accesses) (joined (map (λ (one : LoggedEvent). changes_of design one.accesses) events))
    (changes-each (λ object. has changed object ≡ true) design event.accesses
    (λ access there writes. listed-if changed access (all-in (IsListed changed) event.accesses access (all-front (IsListed changed) event.accesses rest all) there) writes))
    (events-listed design changed events (all-rest (IsListed changed) event.accesses rest all))

pub own-listed : (design : FlatDesign) (changed : List ℕ) (log : LoggedPhase) → AllHold (IsListed changed) (all_accesses log) →
    AllHold (λ object. has changed object ≡ true) (phase_changes design log)
own-listed design changed log all = events-listed design changed log.events all

-- The good machine's block

writes-in : (object : ℕ) (accesses : List ObjectAccess) (access : ObjectAccess) → In access accesses → is_write access.act ≡ true → access.object ≡ object → writes object accesses ≡ true
writes-in object [] access there w same = absurd there
writes-in object (one ∷ accesses) access (inl e) w same =
    or-left (is_writing one.act && nat_eq one.object object) (writes object accesses)
    (λ i. (sym (writing-is one.act) ∙ (ap (λ (a : ObjectAccess). is_write a.act) (sym e) ∙ w)) i && eq-eqb one.object object (ap (λ (a : ObjectAccess). a.object) (sym e) ∙ same) i)
  where
    writing-is : (act : AccessAct) → is_write act ≡ is_writing act
    writing-is Reading = refl
    writing-is (Writing old new) = refl
    writing-is (Awaiting entry) = refl
    writing-is (Ending entry) = refl
    writing-is (Holding entry) = refl
    writing-is Settling = refl
writes-in object (one ∷ accesses) access (inr there) w same =
    or-right (is_writing one.act && nat_eq one.object object) (writes object accesses) (writes-in object accesses access there w same)

-- some of the events writes an object
abbrev pub IsWritten : Machine → State → List Event → ℕ → Type 0
IsWritten machine state events object = list_any (event_writes machine object) (seen_from machine state events) ≡ true

event-writes : (machine : Machine) (writer line : ℕ) (state : State) (event : Event) (access : ObjectAccess) → In access (accesses_of machine writer line state event) → is_write access.act ≡ true →
    event_writes machine access.object (record { before = state; event = event }) ≡ true
event-writes machine writer line state event access there w =
    let other = any_writer machine writer line 0 0 state event access there in
    writes-in access.object (accesses_of machine 0 0 state event) other.0 other.1 (ap is_write other.2 ∙ w) other.3

notes-written : (machine : Machine) (earlier : List NotedEvent) (state : State) (events : List Event) →
    AllHold (IsWritten machine state events) (joined (map (λ (event : LoggedEvent). changes_of machine.design event.accesses) (map (logged machine) (new_notes machine earlier state events))))
notes-written machine earlier state [] = tt
notes-written machine earlier state (event ∷ events) =
    let note = note_of machine earlier state event in
    let rest = joined (map (λ (one : LoggedEvent). changes_of machine.design one.accesses) (map (logged machine) (new_notes machine (earlier ++ note ∷ []) (after machine state event) events))) in
    all-joined (IsWritten machine state (event ∷ events)) (changes_of machine.design (logged machine note).accesses) rest
    (changes-each (IsWritten machine state (event ∷ events)) machine.design (logged machine note).accesses
    (λ access there w.
    or-left (event_writes machine access.object (record { before = state; event = event }))
    (list_any (event_writes machine access.object) (seen_from machine (after machine state event) events)) (event-writes machine note.process note.line state event access there w)))
    (all-weaker (IsWritten machine (after machine state event) events) (IsWritten machine state (event ∷ events)) rest
    (λ object more.
    or-right (event_writes machine object (record { before = state; event = event })) (list_any (event_writes machine object) (seen_from machine (after machine state event) events)) more)
    (notes-written machine (earlier ++ note ∷ []) (after machine state event) events))

pub good-written : (machine : Machine) (state : State) (events : List Event) → AllHold (IsWritten machine state events) (phase_changes machine.design (log_of machine state events))
good-written machine state events =
    subst (λ notes. AllHold (IsWritten machine state events) (joined (map (λ (event : LoggedEvent). changes_of machine.design event.accesses) (map (logged machine) notes))))
    (sym (noted_events-new machine state events)) (notes-written machine [] state events)

-- What is noted as written reaches suspect net pieces alone

pub reaches-suspects : (design : FlatDesign) (notes : NotesKept) (object : ℕ) → has notes.changed object ≡ true → ReachesSuspects design (marks_of design notes) object
reaches-suspects design notes object there = λ net piece path.
    or-right (note_at notes.objects net).suspect (has (net_pieces design) net && some_reaches design notes.changed net)
    (λ i. piece i && any-has (λ source. nat_lt 0 (paths design source net)) notes.changed object there (lt-ltb 0 (paths design object net) path) i)

pub all-reach : (design : FlatDesign) (notes : NotesKept) (changes : List ℕ) → AllHold (λ object. has notes.changed object ≡ true) changes →
    AllHold (ReachesSuspects design (marks_of design notes)) changes
all-reach design notes changes all = all-weaker (λ object. has notes.changed object ≡ true) (ReachesSuspects design (marks_of design notes)) changes (reaches-suspects design notes) all
