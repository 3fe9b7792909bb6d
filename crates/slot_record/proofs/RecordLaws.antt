-- What is recorded of a phase grows with each event.
use Rattle.std.proofs.Common.{◌≡◌, ℕ, zero, suc, ◌+◌, ◌<◌, List, [], ◌∷◌, ◌++◌, map, length, get_or, take, Bool, true, false, refl, sym, ap, subst, ◌∙◌, arith}
use Rattle.std.specs.Prelude.{Option, Some, None}
use Rattle.std.specs.Option.{ForSome}
use Rattle.std.specs.List.{All}
use Rattle.std.proofs.lemmas.List.{length-map, map_push, take_more}
use Rattle.vf_base.specs.Base.{object_number}
use Rattle.net_graph.specs.WiringLaws.{AllHold-push}
use Rattle.vf_base.specs.Lists.{AllHold, last_place, later_place}
use Rattle.v_design.specs.Designs.{FlatDesign, Machine}
use Rattle.v_design.specs.States.{State, Event, found_or}
use Rattle.v_design.specs.Accesses.{ObjectAccess, accesses_of, held_accesses}
use Rattle.v_design.specs.Logs.{LoggedEvent, LoggedPhase}
use Rattle.v_design.specs.PhaseLogs.{NotedEvent, may_cause, cause_of, note_of, logged}
use Rattle.event_causes.specs.Causes.{AreCausesOf, writer_of, noted_writer}
use Rattle.event_causes.specs.declared.causes.Causes.{Causes}
use Rattle.causal_monitor.specs.declared.noted.Noted.{Noted}
use Rattle.causal_monitor.specs.declared.slot.Actor.{Actor}
use Rattle.causal_monitor.specs.Notes.{noted_access}
use Rattle.causal_monitor.specs.Phases.{PhaseOfSlot, NameObjects, IsLogOf, with_event}
use Rattle.value_change.specs.declared.change.Change.{Change}
use Rattle.slot_record.specs.declared.phase.PhaseRecord.{PhaseRecord}
use Rattle.slot_record.specs.Records.{event_of, IsRecordOf, write_of_change}

-- Lists

-- a list read so far and its next element, seen by a function
pub map_more : {A B : Type 0} (f : A → B) (xs : List A) (i : ℕ) (x : A) → i < length xs → x ≡ get_or xs i x → map f (take (i + 1) xs) ≡ map f (take i xs) ++ f x ∷ []
map_more f xs i x low is =
    ap (map f) (take_more xs i x low ∙ ap (λ y. take i xs ++ y ∷ []) (sym is)) ∙ map_push f (take i xs) x

-- a fact of each element of a list of the code, seen by a function
pub all-seen : {A B : Type 0} (P : B → Type 0) (f : A → B) (xs : List A) → All (λ x. P (f x)) xs → AllHold P (map f xs)
all-seen P f [] h = tt
all-seen P f (x ∷ xs) h = (h 0 x (omega arith), all-seen P f xs (λ k d low. h (suc k) d (omega arith)))

-- Causes

last-below : {A : Type 0} (test : A → Bool) (xs : List A) (n : ℕ) → last_place test xs ≡ Some n → n < length xs
last-below test [] n e = cc
last-below test (x ∷ xs) n e = go (test x) (last_place test xs) (λ m f. last-below test xs m f) e
  where
    go : (b : Bool) (o : Option ℕ) → ((m : ℕ) → o ≡ Some m → m < length xs) → later_place b o ≡ Some n → n < suc (length xs)
    go true None h f = let z : 0 ≡ n = ap (found_or n) f in omega (arith, z)
    go false None h f = cc
    go true (Some m) h f = let z : m + 1 ≡ n = ap (found_or n) f in let w : m < length xs = h m refl in omega (arith, z, w)
    go false (Some m) h f = let z : m + 1 ≡ n = ap (found_or n) f in let w : m < length xs = h m refl in omega (arith, z, w)

-- as many events are logged, and writers kept, as are noted
pub events-logged : (machine : Machine) (number : ℕ) (begins : State) (noted : List NotedEvent) (kept : PhaseRecord) → IsRecordOf machine number begins noted kept →
    length kept.log.log.events ≡ length noted
events-logged machine number begins noted kept had = ap (λ (l : LoggedPhase). length l.events) had.log ∙ length-map noted (logged machine)

pub writers-kept : (machine : Machine) (noted : List NotedEvent) (causes : Causes) → AreCausesOf machine noted causes → length causes.writers.items ≡ length noted
writers-kept machine noted causes had = sym (length-map causes.writers.items writer_of) ∙ ap length had.writers ∙ length-map noted noted_writer

-- a cause is an earlier event
pub cause-noted : (machine : Machine) (noted : List NotedEvent) (event : Event) (cause : Option ℕ) (count : ℕ) → cause ≡ cause_of machine noted event → count ≡ length noted →
    ForSome cause (λ c. c < count)
cause-noted machine noted event cause count is many = λ c e. let low : c < length noted = last-below (may_cause machine event) noted c (sym is ∙ e) in omega (arith, low, many)

-- One event more

-- the accesses name objects of the design
pub names-objects : (machine : Machine) (noted : List NotedEvent) (causes : Causes) (accesses : List Noted) → AreCausesOf machine noted causes →
    All (λ noted. object_number noted.access.object < length causes.changes.items) accesses → NameObjects machine.design (map noted_access accesses)
names-objects machine noted causes accesses had low =
    let named : AllHold (λ (access : ObjectAccess). access.object < length causes.changes.items) (map noted_access accesses) =
    all-seen (λ (access : ObjectAccess). access.object < length causes.changes.items) noted_access accesses low in
    subst (λ n. AllHold (λ (access : ObjectAccess). access.object < n) (map noted_access accesses)) had.objects named

-- what is kept after one event more
pub record Grows (machine : Machine) (noted : List NotedEvent) (state : State) (event : Event) (cause : Option ℕ) (accesses : List ObjectAccess) (actor : Actor) (old new : PhaseRecord) : Type 0 where
  pub grown : new.log ≡ with_event (record { cause = cause; accesses = accesses }) old.log
  pub acts : new.actors.items ≡ old.actors.items ++ actor ∷ []
  pub causes : AreCausesOf machine (noted ++ note_of machine noted state event ∷ []) new.causes
  pub is_event : event_of actor ≡ event
  pub is_cause : cause ≡ cause_of machine noted event
  pub are_accesses : accesses ≡ accesses_of machine (note_of machine noted state event).process (note_of machine noted state event).line state event
  pub named : NameObjects machine.design accesses

pub recorded : (machine : Machine) (number : ℕ) (begins : State) (noted : List NotedEvent) (state : State) (event : Event) (cause : Option ℕ) (accesses : List ObjectAccess) (actor : Actor)
    (old new : PhaseRecord) →
    IsRecordOf machine number begins noted old → Grows machine noted state event cause accesses actor old new → IsRecordOf machine number begins (noted ++ note_of machine noted state event ∷ []) new
recorded machine number begins noted state event cause accesses actor old new had more = record {
  time = ap (λ (l : PhaseOfSlot). l.time) more.grown ∙ had.time;
  numbered = ap (λ (l : PhaseOfSlot). l.phase) more.grown ∙ had.numbered;
  log = ap (λ (l : PhaseOfSlot). l.log) more.grown
      ∙ (λ i. record { held = (had.log i).held; events = (had.log i).events ++ record { cause = more.is_cause i; accesses = more.are_accesses i } ∷ [] })
      ∙ (λ i. record { held = held_accesses machine begins; events = sym (map_push (logged machine) noted (note_of machine noted state event)) i });
  causes = more.causes;
  actors = ap (map event_of) more.acts ∙ map_push event_of old.actors.items actor ∙ (λ i. had.actors i ++ more.is_event i ∷ [])
      ∙ sym (map_push (λ (n : NotedEvent). n.event) noted (note_of machine noted state event));
  names = subst (λ (l : PhaseOfSlot). IsLogOf machine.design l.log) (sym more.grown) (record {
    held = had.names.held;
    noted = AllHold-push (λ (e : LoggedEvent). NameObjects machine.design e.accesses) old.log.log.events (record { cause = cause; accesses = accesses }) had.names.noted more.named;
  });
}

-- The accesses of an update of nets

pub both-name : (design : FlatDesign) (xs ys : List ObjectAccess) → NameObjects design xs → NameObjects design ys → NameObjects design (xs ++ ys)
both-name design [] ys a b = b
both-name design (x ∷ xs) ys a b = (a.0, both-name design xs ys a.1 b)

pub writes-name : (machine : Machine) (noted : List NotedEvent) (causes : Causes) (process line : ℕ) (changes : List Change) → AreCausesOf machine noted causes →
    All (λ change. object_number change.object < length causes.changes.items) changes → NameObjects machine.design (map (write_of_change process line) changes)
writes-name machine noted causes process line changes had low =
    let named : AllHold (λ (access : ObjectAccess). access.object < length causes.changes.items) (map (write_of_change process line) changes) =
    all-seen (λ (access : ObjectAccess). access.object < length causes.changes.items) (write_of_change process line) changes low in
    subst (λ n. AllHold (λ (access : ObjectAccess). access.object < n) (map (write_of_change process line) changes)) had.objects named

pub objects-seen : (changes : List Change) → map object_number (map (λ (change : Change). change.object) changes) ≡ map (λ (change : Change). object_number change.object) changes
objects-seen [] = refl
objects-seen (change ∷ changes) = ap (λ xs. object_number change.object ∷ xs) (objects-seen changes)

-- a fact of the objects of some changes
pub all-changed : (n : ℕ) (changes : List Change) → All (λ (change : Change). object_number change.object < n) changes →
    All (λ object. object_number object < n) (map (λ (change : Change). change.object) changes)
all-changed n [] h k d low = absurd (omega (arith, low))
all-changed n (change ∷ changes) h zero d low = h 0 change (omega arith)
all-changed n (change ∷ changes) h (suc k) d low = all-changed n changes (λ j e small. h (suc j) e (omega (arith, small))) k d (omega (arith, low))
