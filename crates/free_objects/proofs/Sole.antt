-- Objects of which no two accesses conflict, by what events access by themselves.
use Rattle.std.proofs.Common.{◌≡◌, ℕ, zero, suc, ◌+◌, ◌<◌, ◌≤◌, List, [], ◌∷◌, ◌++◌, length, Bool, true, false, not, ◌&&◌, ◌||◌, refl, sym, ap, subst, ◌∙◌, ◌⊎◌, inl, inr, arith}
use Rattle.std.specs.Prelude.{Option, Some, None, slice_get, nat_eq}
use Rattle.std.proofs.lemmas.Bool.{eq-eqb, eqb-true, cases_order}
use Rattle.std.proofs.lemmas.Option.{slice_get_within}
use Rattle.vf_base.specs.Lists.{AllHold, last_place}
use Rattle.v_design.specs.Trees.{Entry}
use Rattle.v_design.specs.Designs.{Machine}
use Rattle.v_design.specs.States.{State, Event, Step, LaneStep, Evaluation, NetUpdate, after, some_in}
use Rattle.v_design.specs.Runs.{happened}
use Rattle.v_design.specs.Accesses.{AccessAct, Reading, Writing, Awaiting, Ending, Holding, Settling, ObjectAccess, held_accesses}
use Rattle.v_design.specs.Logs.{LoggedEvent, LoggedPhase, PhaseAccess, is_write, acts_clash, orders_others, orders, events_ordered, access_orders, log_accesses}
use Rattle.v_design.specs.PhaseLogs.{NotedEvent, may_cause, ends_wait, is_step_of, noted_events, logged, log_of}
use Rattle.block_filter.specs.Suffice.{ObjectIsFree}
use Rattle.free_objects.specs.FreeObjects.{is_wild_net, IsOfRun, UnwrittenObjectsAreFree}
use Rattle.free_objects.specs.Stretches.{IsUnused, IsUnwritten, is_reading, IsUnread}
use Rattle.free_objects.specs.FreeObjects.{SoleEventsAreFree, SoleRunsAreFree, UnreadNetsAreFree, LaterReadsAreFree}
use Rattle.order_laws.proofs.Conflicts.{In}
use Rattle.order_laws.proofs.FreeLogs.{clash-symmetric}
use Rattle.order_laws.proofs.PathLaws.{true-false, or-either, or-second}
use Rattle.order_laws.proofs.Notes.{new_notes, noted_events-new, length-new_notes}
use Rattle.order_laws.proofs.RunStates.{first_of, state_at, note_stands, noted, bare, cause_before, IsCause, cause_found, none_caused}
use Rattle.order_laws.proofs.ToFront.{happened-append}
use Rattle.block_filter.proofs.Places.{get-left, get-right, get-parts, all-in, all-at, from_is_in, or_earlier}
use Rattle.block_filter.proofs.Reaches.{cause_in, cause-there, Reaches, one-step, reaches-orders, orders-self}
use Rattle.block_filter.proofs.Clashes.{clear-free, parts-orders}
use Rattle.block_filter.proofs.Entries.{entries, length-entries, log_entries, entries-append, go_back, last_noted, entry_at, entry_back, any_writer}
use Rattle.free_objects.proofs.Raw.{IsAccess, IsHeld, IsRaw, Settles, access-is, tested}

-- Acts

abbrev changes_nothing : AccessAct → Bool
changes_nothing Reading = true
changes_nothing (Writing old new) = false
changes_nothing (Awaiting entry) = true
changes_nothing (Ending entry) = true
changes_nothing (Holding entry) = true
changes_nothing Settling = false

-- two acts that change nothing don't clash
quiet-clash : (object : ℕ) (one other : AccessAct) → changes_nothing one ≡ true → changes_nothing other ≡ true → acts_clash object one other ≡ false
quiet-clash object (Writing old new) other p q = cc
quiet-clash object Settling other p q = cc
quiet-clash object one (Writing old new) p q = cc
quiet-clash object one Settling p q = cc
quiet-clash object Reading Reading p q = refl
quiet-clash object one other p q = refl

raw-quiet : (act : AccessAct) → orders_others act ≡ true → is_write act ≡ false → changes_nothing act ≡ true
raw-quiet Reading o w = refl
raw-quiet (Writing old new) o w = cc
raw-quiet (Awaiting entry) o w = refl
raw-quiet (Ending entry) o w = refl
raw-quiet (Holding entry) o w = cc
raw-quiet Settling o w = cc

-- the end of a wait and a settling
abbrev ends_or_settles : AccessAct → Bool
ends_or_settles Reading = false
ends_or_settles (Writing old new) = false
ends_or_settles (Awaiting entry) = false
ends_or_settles (Ending entry) = true
ends_or_settles (Holding entry) = false
ends_or_settles Settling = true

ends-clash : (object : ℕ) (one other : AccessAct) → ends_or_settles one ≡ true → ends_or_settles other ≡ true → acts_clash object one other ≡ false
ends-clash object (Ending entry) (Ending entry') p q = refl
ends-clash object (Ending entry) Settling p q = refl
ends-clash object Settling (Ending entry) p q = refl
ends-clash object Settling Settling p q = refl
ends-clash object (Ending entry) other p q = cc
ends-clash object Settling other p q = cc
ends-clash object one other p q = cc

raw-ends : (act : AccessAct) → orders_others act ≡ true → is_write act ≡ false → is_reading act ≡ false → ends_or_settles act ≡ true
raw-ends Reading o w r = cc
raw-ends (Writing old new) o w r = cc
raw-ends (Awaiting entry) o w r = cc
raw-ends (Ending entry) o w r = refl
raw-ends (Holding entry) o w r = cc
raw-ends Settling o w r = cc

-- what is held clashes with settlings alone
held-clash : (object : ℕ) (one other : AccessAct) → (entry : Entry) → one ≡ Holding entry → orders_others other ≡ true → acts_clash object one other ≡ false
held-clash object one other entry e o = ap (λ act. acts_clash object act other) e ∙ go other o
  where
    go : (act : AccessAct) → orders_others act ≡ true → acts_clash object (Holding entry) act ≡ false
    go Reading o = refl
    go (Writing old new) o = refl
    go (Awaiting entry') o = refl
    go (Ending entry') o = refl
    go (Holding entry') o = cc
    go Settling o = cc

-- a test of an object's accesses that fails, at one of them
pub of-object : (object other : ℕ) (b : Bool) → other ≡ object → (nat_eq other object && b) ≡ false → b ≡ false
of-object object other b same e = ap (λ c. c && b) (sym (eq-eqb other object same)) ∙ e

pub other-object : {A : Type 0} (object other : ℕ) → other ≡ object → nat_eq other object ≡ false → A
other-object object other same e = true-false (nat_eq other object) (eq-eqb other object same) e

pub not-settled : {A : Type 0} (machine : Machine) (log : LoggedPhase) (object other : ℕ) → is_wild_net machine.design log object ≡ false → other ≡ object →
    is_wild_net machine.design log other ≡ true → A
not-settled machine log object other tame same wild = true-false (is_wild_net machine.design log other) wild (ap (is_wild_net machine.design log) same ∙ tame)

-- Nothing writes

quiet-act : (machine : Machine) (state : State) (events : List Event) (object : ℕ) (access : PhaseAccess) → IsAccess machine state events access →
    is_wild_net machine.design (log_of machine state events) object ≡ false → IsUnwritten machine state events object → access.access.object ≡ object → changes_nothing access.access.act ≡ true
quiet-act machine state events object access (IsHeld none held entry act) tame u same = ap changes_nothing act
quiet-act machine state events object access (IsRaw number x at stands among act counted) tame u same =
    raw-quiet access.access.act act
    (of-object object access.access.object (is_write access.access.act) same
    (tested (λ o a. nat_eq o object && is_write a) machine [] state events number x access.access u stands among))
quiet-act machine state events object access (Settles act wild) tame u same = not-settled machine (log_of machine state events) object access.access.object tame same wild

pub unwritten_objects_are_free : UnwrittenObjectsAreFree
unwritten_objects_are_free machine state events object tame u first second i j same other =
    clear-free (log_of machine state events) first second
    (λ s clash. true-false (acts_clash first.access.object first.access.act second.access.act) clash
    (quiet-clash first.access.object first.access.act second.access.act
    (quiet-act machine state events object first (access-is machine state events first (from_is_in first (log_accesses machine.design (log_of machine state events)) i)) tame u same)
    (quiet-act machine state events object second (access-is machine state events second (from_is_in second (log_accesses machine.design (log_of machine state events)) j)) tame u other)))

-- Nothing writes from some event on

later-act : (machine : Machine) (state : State) (before after : List Event) (object number : ℕ) (access : PhaseAccess) → IsAccess machine state (before ++ after) access →
    is_wild_net machine.design (log_of machine state (before ++ after)) object ≡ false → IsUnwritten machine (happened machine state before) after object → access.access.object ≡ object →
    access.event ≡ Some number → length before ≤ number → changes_nothing access.access.act ≡ true
later-act machine state before after object number access (IsHeld none held entry act) tame u same e b = ap changes_nothing act
later-act machine state before after object number access (Settles act wild) tame u same e b =
    not-settled machine (log_of machine state (before ++ after)) object access.access.object tame same wild
later-act machine state before after object number access (IsRaw place x at stands among act counted) tame u same e b =
    raw-quiet access.access.act act (of-object object access.access.object (is_write access.access.act) same
    (go (get-parts (entries machine [] state before) (entries machine (new_notes machine [] state before) (happened machine state before) after) place x
    (subst (λ es. slice_get es place ≡ Some x) (entries-append machine [] state before after) stands))))
  where
    one : place ≡ number
    one = some-number place number (sym at ∙ e)
      where
        some-number : (m n : ℕ) → Some m ≡ Some n → m ≡ n
        some-number m n f = cc

    go : (slice_get (entries machine [] state before) place ≡ Some x)
        ⊎ ((k : ℕ) × (place ≡ length (entries machine [] state before) + k)
        × (slice_get (entries machine (new_notes machine [] state before) (happened machine state before) after) k ≡ Some x)) →
        (nat_eq access.access.object object && is_write access.access.act) ≡ false
    go (inl there) =
        let w : place < length (entries machine [] state before) = slice_get_within (entries machine [] state before) place x there in
        absurd (omega (arith, w, b, one, length-entries machine [] state before))
    go (inr r) =
        tested (λ o a. nat_eq o object && is_write a) machine (new_notes machine [] state before) (happened machine state before) after r.0 x access.access u r.2 among

pub later_reads_are_free : LaterReadsAreFree
later_reads_are_free machine state before after object tame u first second one other i j same same' e f b b' =
    clear-free (log_of machine state (before ++ after)) first second
    (λ s clash. true-false (acts_clash first.access.object first.access.act second.access.act) clash
    (quiet-clash first.access.object first.access.act second.access.act
    (later-act machine state before after object one first
    (access-is machine state (before ++ after) first (from_is_in first (log_accesses machine.design (log_of machine state (before ++ after))) i)) tame u same e b)
    (later-act machine state before after object other second
    (access-is machine state (before ++ after) second (from_is_in second (log_accesses machine.design (log_of machine state (before ++ after))) j)) tame u same' f b')))

-- Nothing reads a wild net piece

ending-act : (machine : Machine) (state : State) (events : List Event) (net : ℕ) (access : PhaseAccess) → IsAccess machine state events access →
    is_wild_net machine.design (log_of machine state events) net ≡ true → IsUnread machine state events net →
    AllHold (λ (a : ObjectAccess). nat_eq a.object net ≡ false) (held_accesses machine state) → access.access.object ≡ net → ends_or_settles access.access.act ≡ true
ending-act machine state events net access (IsHeld none held entry act) wild u h same =
    other-object net access.access.object same (all-in (λ (a : ObjectAccess). nat_eq a.object net ≡ false) (held_accesses machine state) access.access h held)
ending-act machine state events net access (IsRaw number x at stands among act counted) wild u h same =
    raw-ends access.access.act act
    (unwritten (is_write access.access.act) (is_wild_net machine.design (log_of machine state events) access.access.object)
    (ap (is_wild_net machine.design (log_of machine state events)) same ∙ wild) counted)
    (of-object net access.access.object (is_reading access.access.act) same
    (tested (λ o a. nat_eq o net && is_reading a) machine [] state events number x access.access u stands among))
  where
    unwritten : (w v : Bool) → v ≡ true → not (w && v) ≡ true → w ≡ false
    unwritten true true e c = cc
    unwritten true false e c = cc
    unwritten false v e c = refl
ending-act machine state events net access (Settles act wild) w u h same = ap ends_or_settles act

pub unread_nets_are_free : UnreadNetsAreFree
unread_nets_are_free machine state events net wild u h first second i j same other =
    clear-free (log_of machine state events) first second
    (λ s clash. true-false (acts_clash first.access.object first.access.act second.access.act) clash
    (ends-clash first.access.object first.access.act second.access.act
    (ending-act machine state events net first (access-is machine state events first (from_is_in first (log_accesses machine.design (log_of machine state events)) i)) wild u h same)
    (ending-act machine state events net second (access-is machine state events second (from_is_in second (log_accesses machine.design (log_of machine state events)) j)) wild u h other)))

-- All events that access an object are ordered

-- any two events that access it are
abbrev pub AreOrdered : Machine → State → List Event → ℕ → Type 0
AreOrdered machine state events object =
    (n m : ℕ) (x y : LoggedEvent) (a b : ObjectAccess) → slice_get (entries machine [] state events) n ≡ Some x → In a x.accesses → a.object ≡ object →
    slice_get (entries machine [] state events) m ≡ Some y → In b y.accesses → b.object ≡ object →
    (orders (log_of machine state events) n m ≡ true) ⊎ (orders (log_of machine state events) m n ≡ true)

pub ordered-free : (machine : Machine) (state : State) (events : List Event) (object : ℕ) → is_wild_net machine.design (log_of machine state events) object ≡ false →
    AreOrdered machine state events object → ObjectIsFree machine.design (log_of machine state events) object
ordered-free machine state events object tame order first second i j same other =
    clear-free (log_of machine state events) first second
    (λ s clash. go clash (access-is machine state events first (from_is_in first (log_accesses machine.design (log_of machine state events)) i))
    (access-is machine state events second (from_is_in second (log_accesses machine.design (log_of machine state events)) j)))
  where
    no-clash : {A : Type 0} → acts_clash first.access.object first.access.act second.access.act ≡ true → acts_clash first.access.object first.access.act second.access.act ≡ false → A
    no-clash c d = true-false (acts_clash first.access.object first.access.act second.access.act) c d

    go : acts_clash first.access.object first.access.act second.access.act ≡ true → IsAccess machine state events first → IsAccess machine state events second →
        (access_orders (log_of machine state events) first second ≡ true) ⊎ (access_orders (log_of machine state events) second first ≡ true)
    go c (Settles act wild) y = not-settled machine (log_of machine state events) object first.access.object tame same wild
    go c x (Settles act wild) = not-settled machine (log_of machine state events) object second.access.object tame other wild
    go c (IsHeld none held entry act) (IsHeld none' held' entry' act') = no-clash c (λ k. acts_clash first.access.object (act k) (act' k))
    go c (IsHeld none held entry act) (IsRaw m y at stands among o counted) = no-clash c (held-clash first.access.object first.access.act second.access.act entry act o)
    go c (IsRaw n x at stands among o counted) (IsHeld none held entry act) =
        no-clash c (clash-symmetric first.access.object first.access.act second.access.act ∙ held-clash first.access.object second.access.act first.access.act entry act o)
    go c (IsRaw n x at stands among o counted) (IsRaw m y at' stands' among' o' counted') =
        elim (order n m x y first.access second.access stands among same stands' among' other) [
          | inl r ↦ inl (parts-orders (log_of machine state events) first second o ((λ k. events_ordered (log_of machine state events) (at k) (at' k)) ∙ r))
          | inr r ↦ inr (parts-orders (log_of machine state events) second first o' ((λ k. events_ordered (log_of machine state events) (at' k) (at k)) ∙ r))
        ]

-- One event

module _ (machine : Machine) (state : State) (before after : List Event) (event : Event) (object : ℕ) (u : IsUnused machine state before object)
    (v : IsUnused machine (happened machine state (before ++ event ∷ [])) after object) where
  -- only that event accesses the object
  sole-place : (n : ℕ) (x : LoggedEvent) (a : ObjectAccess) → slice_get (entries machine [] state (before ++ event ∷ after)) n ≡ Some x → In a x.accesses → a.object ≡ object → n ≡ length before
  sole-place n x a stands among same =
      go
      (get-parts (entries machine [] state before) (entries machine (new_notes machine [] state before) (happened machine state before) (event ∷ after)) n x
      (subst (λ es. slice_get es n ≡ Some x) (entries-append machine [] state before (event ∷ after)) stands))
    where
      next : happened machine state (before ++ event ∷ []) ≡ happened machine (happened machine state before) (event ∷ [])
      next = happened-append machine state before (event ∷ [])

      rest : (k : ℕ) → n ≡ length (entries machine [] state before) + k →
          slice_get (entries machine (new_notes machine [] state before) (happened machine state before) (event ∷ after)) k ≡ Some x → n ≡ length before
      rest zero e there = let l : length (entries machine [] state before) ≡ length before = length-entries machine [] state before in omega (arith, e, l)
      rest (suc k) e there =
          let split : slice_get (entries machine (new_notes machine [] state before) (happened machine state before) (event ∷ []) ++ entries machine
          (new_notes machine [] state before ++ new_notes machine (new_notes machine [] state before) (happened machine state before) (event ∷ []))
          (happened machine (happened machine state before) (event ∷ [])) after) (suc k) ≡ Some x =
          subst (λ es. slice_get es (suc k) ≡ Some x) (entries-append machine (new_notes machine [] state before) (happened machine state before) (event ∷ []) after) there in
          other-object object a.object same
          (tested (λ o act. nat_eq o object) machine
          (new_notes machine [] state before ++ new_notes machine (new_notes machine [] state before) (happened machine state before) (event ∷ []))
          (happened machine (happened machine state before) (event ∷ [])) after k x a (subst (λ s. IsUnused machine s after object) next v) split among)

      go : (slice_get (entries machine [] state before) n ≡ Some x)
          ⊎ ((k : ℕ) × (n ≡ length (entries machine [] state before) + k)
          × (slice_get (entries machine (new_notes machine [] state before) (happened machine state before) (event ∷ after)) k ≡ Some x)) → n ≡ length before
      go (inl there) = other-object object a.object same (tested (λ o act. nat_eq o object) machine [] state before n x a u there among)
      go (inr r) = rest r.0 r.1 r.2

pub sole_events_are_free : SoleEventsAreFree
sole_events_are_free machine state before after event object tame u v =
    ordered-free machine state (before ++ event ∷ after) object tame
    (λ n m x y a b ex i same ey j other.
    inl
    (subst (λ k. orders (log_of machine state (before ++ event ∷ after)) n k ≡ true)
    (sole-place machine state before after event object u v n x a ex i same ∙ sym (sole-place machine state before after event object u v m y b ey j other))
    (orders-self (log_of machine state (before ++ event ∷ after)) n)))

-- One run

some_in-here : {A : Type 0} (test : A → Bool) (xs : List A) (x : A) → In x xs → test x ≡ true → some_in test xs ≡ true
some_in-here test [] x i t = absurd i
some_in-here test (y ∷ xs) x (inl e) t = ap (λ b. b || some_in test xs) (sym (ap test e) ∙ t)
some_in-here test (y ∷ xs) x (inr i) t = or-second (test y) (some_in test xs) (some_in-here test xs x i t)

step-is : (process : ℕ) (event : Event) → is_step_of process event ≡ true → event ≡ Step process
step-is process (Step number) e = ap Step (sym (eqb-true process number e))
step-is process (LaneStep number) e = cc
step-is process (Evaluation node) e = cc
step-is process (NetUpdate node) e = cc

module _ (machine : Machine) (state : State) (before run after : List Event) (object process : ℕ) (u : IsUnused machine state before object)
    (r : AllHold (IsOfRun machine object process) (noted_events machine (happened machine state before) run))
    (v : IsUnused machine (happened machine state (before ++ run)) after object) where
  abbrev begins : State
  begins = happened machine state before

  abbrev ones : List NotedEvent
  ones = new_notes machine [] state before

  abbrev whole_run : List LoggedEvent
  whole_run = entries machine [] state (before ++ (run ++ after))

  -- what stands in the run
  run_note : (k : ℕ) (event : Event) → slice_get run k ≡ Some event → IsOfRun machine object process (noted machine begins run k event)
  run_note k event e =
      all-at (IsOfRun machine object process) (new_notes machine [] begins run) k (noted machine begins run k event)
      (subst (AllHold (IsOfRun machine object process)) (noted_events-new machine begins run) r) (note_stands machine begins run k event e)

  run-split : (k : ℕ) (x : LoggedEvent) → slice_get (entries machine ones begins run) k ≡ Some x → slice_get whole_run (length ones + k) ≡ Some x
  run-split k x e =
      ap (λ es. slice_get es (length ones + k)) (entries-append machine [] state before (run ++ after))
      ∙ get-right (entries machine [] state before) (entries machine ones begins (run ++ after)) k (length ones + k)
      (let l : length (entries machine [] state before) ≡ length before = length-entries machine [] state before in
      let m : length ones ≡ length before = length-new_notes machine [] state before in
      omega (arith, l, m))
      ∙ ap (λ es. slice_get es k) (entries-append machine ones begins run after)
      ∙ get-left (entries machine ones begins run) (entries machine (ones ++ new_notes machine ones begins run) (happened machine begins run) after) k x e

  -- each event that accesses the object is a step of the process in the run
  run-step : (k : ℕ) (x : LoggedEvent) (a : ObjectAccess) → slice_get (entries machine ones begins run) k ≡ Some x → In a x.accesses → a.object ≡ object → slice_get run k ≡ Some (Step process)
  run-step k x a ex i same =
      let p = entry_back machine ones begins run k x ex in
      let note : NotedEvent = noted machine begins run k p.0 in
      let o = any_writer machine p.2.writer p.2.line note.process note.line (state_at machine begins run k) p.0 a (subst (λ xs. In a xs) p.2.accesses i) in
      p.1
      ∙ ap Some
      (step-is process p.0
      ((run_note k p.0 p.1).steps
      (some_in-here (λ (b : ObjectAccess). nat_eq b.object object) (logged machine note).accesses o.0 o.1 (eq-eqb o.0.object object (o.3 ∙ same)))))

  run-place : (n : ℕ) (x : LoggedEvent) (a : ObjectAccess) → slice_get whole_run n ≡ Some x → In a x.accesses → a.object ≡ object →
      (k : ℕ) × (n ≡ length ones + k) × (slice_get run k ≡ Some (Step process))
  run-place n x a stands i same =
      go
      (get-parts (entries machine [] state before) (entries machine ones begins (run ++ after)) n x
      (subst (λ es. slice_get es n ≡ Some x) (entries-append machine [] state before (run ++ after)) stands))
    where
      in-rest : (k : ℕ) → n ≡ length ones + k →
          (slice_get (entries machine ones begins run) k ≡ Some x)
          ⊎ ((l : ℕ) × (k ≡ length (entries machine ones begins run) + l)
          × (slice_get (entries machine (ones ++ new_notes machine ones begins run) (happened machine begins run) after) l ≡ Some x)) →
          (k : ℕ) × (n ≡ length ones + k) × (slice_get run k ≡ Some (Step process))
      in-rest k e (inl there) = (k, e, run-step k x a there i same)
      in-rest k e (inr later) =
          other-object object a.object same
          (tested (λ o act. nat_eq o object) machine (ones ++ new_notes machine ones begins run) (happened machine begins run) after later.0 x a
          (subst (λ s. IsUnused machine s after object) (happened-append machine state before run) v) later.2 i)

      go : (slice_get (entries machine [] state before) n ≡ Some x)
          ⊎ ((k : ℕ) × (n ≡ length (entries machine [] state before) + k) × (slice_get (entries machine ones begins (run ++ after)) k ≡ Some x)) →
          (k : ℕ) × (n ≡ length ones + k) × (slice_get run k ≡ Some (Step process))
      go (inl there) = other-object object a.object same (tested (λ o act. nat_eq o object) machine [] state before n x a u there i)
      go (inr p) =
          in-rest p.0
          (let e : n ≡ length (entries machine [] state before) + p.0 = p.1 in
          let l : length (entries machine [] state before) ≡ length before = length-entries machine [] state before in
          let m : length ones ≡ length before = length-new_notes machine [] state before in
          omega (arith, e, l, m))
          (get-parts (entries machine ones begins run) (entries machine (ones ++ new_notes machine ones begins run) (happened machine begins run) after) p.0 x
          (subst (λ es. slice_get es p.0 ≡ Some x) (entries-append machine ones begins run after) p.2))

  -- the cause of a step of the run, at a place
  run-cause : (j l : ℕ) → slice_get run j ≡ Some (Step process) → cause_before machine begins run j (Step process) ≡ Some l → cause_in whole_run (length ones + j) ≡ Some (length ones + l)
  run-cause j l e c =
      let x = entry_at machine ones begins run j (Step process) e in
      cause-there whole_run (length ones + j) x.0 (run-split j x.0 x.1) ∙ x.2.cause
      ∙ ap (λ o. or_earlier (length ones) o (last_place (may_cause machine (Step process)) ones)) (sym (last_noted machine (Step process) [] begins (first_of j run)) ∙ c)

  -- an earlier step of the run is reached
  run-reaches : (fuel j i : ℕ) → j ≤ fuel → i < j → slice_get run i ≡ Some (Step process) → slice_get run j ≡ Some (Step process) → Reaches whole_run (length ones + j) (length ones + i)
  run-reaches zero j i b less ei ej = absurd (omega (arith, b, less))
  run-reaches (suc fuel) j i b less ei ej =
      go (cause_before machine begins run j (Step process)) refl
      (λ l m n el. run-reaches fuel l i (omega (arith, n, b)) m ei el)
    where
      itself : may_cause machine (Step process) (bare (state_at machine begins run i) (Step process)) ≡ true
      itself = ap (λ c. c || ends_wait machine process (bare (state_at machine begins run i) (Step process))) (eq-eqb process process refl)

      is-step : (c : (l : ℕ) × IsCause machine begins run j (Step process) l) → slice_get run c.0 ≡ Some (Step process)
      is-step c =
          c.1.stands
          ∙ ap Some
          (step-is process c.1.event
          (elim (or-either (is_step_of process c.1.event) (ends_wait machine process (bare (state_at machine begins run c.0) c.1.event)) c.1.may) [
            | inl s ↦ s
            | inr w ↦ true-false (ends_wait machine process (bare (state_at machine begins run c.0) c.1.event)) w (run_note c.0 c.1.event c.1.stands).goes_on
          ]))

      found : (l : ℕ) → cause_before machine begins run j (Step process) ≡ Some l → IsCause machine begins run j (Step process) l →
          ((k : ℕ) → i < k → k < j → slice_get run k ≡ Some (Step process) → Reaches whole_run (length ones + k) (length ones + i)) → Reaches whole_run (length ones + j) (length ones + i)
      found l e c rest = elim (cases_order l i) [
        | inl same ↦ one-step whole_run (length ones + j) (length ones + i) (run-cause j l ej e ∙ ap (λ k. Some (length ones + k)) same)
        | inr (inl below) ↦ true-false (may_cause machine (Step process) (bare (state_at machine begins run i) (Step process))) itself (c.latest i (Step process) below less ei)
        | inr (inr above) ↦ (let t = rest l above c.earlier (is-step (l, c)) in
            (suc t.0, (length ones + l, run-cause j l ej e, t.1)))
      ]

      go : (o : Option ℕ) → cause_before machine begins run j (Step process) ≡ o →
          ((k : ℕ) → i < k → k < j → slice_get run k ≡ Some (Step process) → Reaches whole_run (length ones + k) (length ones + i)) → Reaches whole_run (length ones + j) (length ones + i)
      go None e rest =
          true-false (may_cause machine (Step process) (bare (state_at machine begins run i) (Step process))) itself (none_caused machine begins run j (Step process) e i (Step process) less ei)
      go (Some l) e rest = found l e (cause_found machine begins run j (Step process) l e) rest

  run-orders : (j i : ℕ) → i < j → slice_get run i ≡ Some (Step process) → slice_get run j ≡ Some (Step process) →
      orders (log_of machine state (before ++ (run ++ after))) (length ones + i) (length ones + j) ≡ true
  run-orders j i less ei ej =
      let t = run-reaches j j i (omega arith) less ei ej in
      let x = entry_at machine ones begins run j (Step process) ej in
      let w : length ones + j < length whole_run = slice_get_within whole_run (length ones + j) x.0 (run-split j x.0 x.1) in
      let l : length (log_of machine state (before ++ (run ++ after))).events ≡ length whole_run = ap length (log_entries machine state (before ++ (run ++ after))) in
      reaches-orders (log_of machine state (before ++ (run ++ after))) (go_back machine state (before ++ (run ++ after))) (length ones + j) (length ones + i) (omega (arith, w, l))
      (subst (λ es. Reaches es (length ones + j) (length ones + i)) (sym (log_entries machine state (before ++ (run ++ after)))) t)

  run-ordered : AreOrdered machine state (before ++ (run ++ after)) object
  run-ordered n m x y a b ex i same ey j other =
      let p = run-place n x a ex i same in
      let q = run-place m y b ey j other in
      subst (λ k. (orders (log_of machine state (before ++ (run ++ after))) k m ≡ true) ⊎ (orders (log_of machine state (before ++ (run ++ after))) m k ≡ true)) (sym p.1)
      (subst
      (λ k. (orders (log_of machine state (before ++ (run ++ after))) (length ones + p.0) k ≡ true) ⊎ (orders (log_of machine state (before ++ (run ++ after))) k (length ones + p.0) ≡ true))
      (sym q.1) (both p.0 q.0 p.2 q.2))
    where
      both : (k l : ℕ) → slice_get run k ≡ Some (Step process) → slice_get run l ≡ Some (Step process) →
          (orders (log_of machine state (before ++ (run ++ after))) (length ones + k) (length ones + l) ≡ true)
          ⊎ (orders (log_of machine state (before ++ (run ++ after))) (length ones + l) (length ones + k) ≡ true)
      both k l ek el = elim (cases_order k l) [
        | inl e ↦ inl
            (subst (λ n. orders (log_of machine state (before ++ (run ++ after))) (length ones + k) (length ones + n) ≡ true) e
            (orders-self (log_of machine state (before ++ (run ++ after))) (length ones + k)))
        | inr (inl below) ↦ inl (run-orders l k below ek el)
        | inr (inr above) ↦ inr (run-orders k l above el ek)
      ]

pub sole_runs_are_free : SoleRunsAreFree
sole_runs_are_free machine state before run after object process tame u r v =
    ordered-free machine state (before ++ (run ++ after)) object tame (run-ordered machine state before run after object process u r v)
