-- Laws on a list that gains the accesses of a phase (nothing of the language).
use Rattle.std.proofs.Common.{◌≡◌, ℕ, zero, suc, ◌+◌, ◌<◌, ◌≤◌, Bool, true, false, List, [], ◌∷◌, ◌++◌, length, get_or, map, filter, take, Option, Some, None, cond, refl, ap, sym, subst, ◌∙◌, arith}
use Rattle.std.proofs.Common.{inl, inr, append-nil, append_assoc}
use Rattle.std.specs.Prelude.{nat_eq, nat_lt, ◌&&◌}
use Rattle.std.specs.List.{All}
use Rattle.std.specs.Option.{ForSome}
use Rattle.std.proofs.lemmas.Bool.{eq-eqb, or_left, or_right, or_cases}
use Rattle.std.proofs.lemmas.List.{map_push, take_more, take_all, length-take-le, map-append, get_or-map, length-map}
use Rattle.std.proofs.lemmas.List.Elements.{All-push, filter-append}
use Rattle.vf_base.specs.declared.ids.ObjectId.{ObjectId}
use Rattle.vf_base.specs.Base.{object_number}
use Rattle.vf_base.specs.Lists.{joined, has, map_numbered}
use Rattle.v_design.specs.Designs.{FlatDesign}
use Rattle.v_design.specs.Paths.{net_pieces, is_wild, paths}
use Rattle.v_design.specs.Accesses.{ObjectAccess}
use Rattle.v_design.specs.Logs.{LoggedEvent, LoggedPhase, PhaseAccess, change_of, changes_of, phase_changes, settles_of, counted_accesses, event_accesses, log_accesses}
use Rattle.graph_order.specs.ListLaws.{has-append}
use Rattle.net_graph.specs.RuleLaws.{numbers_of-bound}
use Rattle.causal_monitor.specs.declared.noted.Noted.{Noted}
use Rattle.causal_monitor.specs.declared.numbered.Numbered.{Numbered}
use Rattle.four_value.specs.Values.{LogicValue}
use Rattle.vf_base.specs.declared.finding.AccessKind.{AccessKind}
use Rattle.vf_base.specs.declared.finding.AccessKind.TheVariants.{Read, Write, Await, Ended, Held, Settle}
use Rattle.causal_monitor.specs.declared.noted.WaitEdge.{WaitEdge}
use Rattle.causal_monitor.specs.Notes.{IsNoted, IsHeld, HasParts}
use Rattle.causal_monitor.specs.Phases.{accesses_at}
use Rattle.causal_monitor.specs.Changes.{settled_nets}
use Rattle.causal_monitor.specs.Counted.{IsNumbered, HasCheckedParts, numbered_object, phase_access, numbered_at, held_at, settling_of, Adds}
use Rattle.causal_monitor.proofs.ChangeLaws.{joined-append, no_event, event_at}

-- nothing is gained
pub Adds-none : (objects events : ℕ) (list : List Numbered) → Adds objects events list list []
Adds-none objects events list = record { list = sym (append-nil (map phase_access list)); numbered = λ h. h; objects = λ h. h }

-- one access more
pub Adds-push : (objects events : ℕ) (before later : List Numbered) (more : List PhaseAccess) (n : Numbered) → numbered_object n < objects → IsNumbered events n →
    Adds objects events before later more → Adds objects events before (later ++ n ∷ []) (more ++ phase_access n ∷ [])
Adds-push objects events before later more n low numbered had = record {
  list =
      map_push phase_access later n ∙ ap (λ l. l ++ phase_access n ∷ []) had.list ∙ append_assoc (map phase_access before) more (phase_access n ∷ []);
  numbered = λ h. All-push (IsNumbered events) later n (had.numbered h) numbered;
  objects = λ h. All-push (λ (m : Numbered). numbered_object m < objects) later n (had.objects h) low;
}

-- first some, then others
pub Adds-trans : (objects events : ℕ) (before middle later : List Numbered) (more others : List PhaseAccess) → Adds objects events before middle more → Adds objects events middle later others →
    Adds objects events before later (more ++ others)
Adds-trans objects events before middle later more others first second = record {
  list = second.list ∙ ap (λ l. l ++ others) first.list ∙ append_assoc (map phase_access before) more others;
  numbered = λ h. second.numbered (first.numbered h);
  objects = λ h. second.objects (first.objects h);
}

-- the same accesses
pub Adds-same : (objects events : ℕ) (before later : List Numbered) (more others : List PhaseAccess) → more ≡ others → Adds objects events before later more → Adds objects events before later others
Adds-same objects events before later more others same had = subst (Adds objects events before later) same had

-- those of the first elements, and one more
pub map_take-more : {A B : Type 0} (f : A → B) (xs : List A) (i : ℕ) (x : A) → i < length xs → x ≡ get_or xs i x → map f (take (i + 1) xs) ≡ map f (take i xs) ++ f x ∷ []
map_take-more f xs i x low is = ap (map f) (take_more xs i x low ∙ ap (λ y. take i xs ++ y ∷ []) (sym is)) ∙ map_push f (take i xs) x

-- those that pass a test
pub filter_take-more : {A B : Type 0} (f : A → B) (test : A → Bool) (xs : List A) (i : ℕ) (x : A) → i < length xs → x ≡ get_or xs i x →
    map f (filter test (take (i + 1) xs)) ≡ map f (filter test (take i xs)) ++ cond (test x) (f x ∷ []) []
filter_take-more f test xs i x low is =
    ap (λ l. map f (filter test l)) (take_more xs i x low ∙ ap (λ y. take i xs ++ y ∷ []) (sym is)) ∙ ap (map f) (filter-append test (take i xs) (x ∷ []))
    ∙ map-append f (filter test (take i xs)) (filter test (x ∷ [])) ∙ ap (λ l. map f (filter test (take i xs)) ++ l) (one (test x) refl)
  where
    one : (b : Bool) → test x ≡ b → map f (filter test (x ∷ [])) ≡ cond (test x) (f x ∷ []) []
    one true e = ap (λ b. map f (cond b (x ∷ []) [])) e ∙ sym (ap (λ b. cond b (f x ∷ []) []) e)
    one false e = ap (λ b. map f (cond b (x ∷ []) [])) e ∙ sym (ap (λ b. cond b (f x ∷ []) []) e)

-- an access that is wanted, or none
pub Adds-if : (objects events : ℕ) (before later pushed : List Numbered) (more : List PhaseAccess) (n : Numbered) (wanted : Bool) → numbered_object n < objects → IsNumbered events n →
    pushed ≡ later ++ cond wanted (n ∷ []) [] → Adds objects events before later more → Adds objects events before pushed (more ++ cond wanted (phase_access n ∷ []) [])
Adds-if objects events before later pushed more n true low numbered is had =
    subst (λ l. Adds objects events before l (more ++ phase_access n ∷ [])) (sym is) (Adds-push objects events before later more n low numbered had)
Adds-if objects events before later pushed more n false low numbered is had =
    subst (λ l. Adds objects events before l (more ++ [])) (sym (is ∙ append-nil later)) (Adds-same objects events before later more (more ++ []) (sym (append-nil more)) had)

-- Settlings

-- what an access settles that changes an object
pub settles_of-one : (design : FlatDesign) (changes : List ℕ) (access : ObjectAccess) (object : ℕ) → object ∷ [] ≡ change_of design access.act access.object →
    settles_of design changes access ≡ map (settling_of access) (settled_nets design changes object)
settles_of-one design changes access object is =
    sym (ap (λ l. joined (map (λ changed. map (settling_of access) (settled_nets design changes changed)) l)) is) ∙ append-nil (map (settling_of access) (settled_nets design changes object))

-- an access that changes nothing settles nothing
pub settles_of-none : (design : FlatDesign) (changes : List ℕ) (access : ObjectAccess) → [] ≡ change_of design access.act access.object → settles_of design changes access ≡ []
settles_of-none design changes access is = sym (ap (λ l. joined (map (λ changed. map (settling_of access) (settled_nets design changes changed)) l)) is)

has_kept : (b : Bool) (x n : ℕ) (rest xs : List ℕ) → (has rest n ≡ true → has xs n ≡ true) → has (cond b (x ∷ rest) rest) n ≡ true → has (x ∷ xs) n ≡ true
has_kept true x n rest xs more e = elim (or_cases (nat_eq x n) (has rest n) e) [ inl same ↦ or_left (nat_eq x n) (has xs n) same | inr there ↦ or_right (nat_eq x n) (has xs n) (more there) ]
has_kept false x n rest xs more e = or_right (nat_eq x n) (has xs n) (more e)

has_filtered : (test : ℕ → Bool) (xs : List ℕ) (n : ℕ) → has (filter test xs) n ≡ true → has xs n ≡ true
has_filtered test [] n e = e
has_filtered test (x ∷ xs) n e = has_kept (test x) x n (filter test xs) xs (has_filtered test xs n) e

has_place : (xs : List ℕ) (i d : ℕ) → i < length xs → has xs (get_or xs i d) ≡ true
has_place [] i d low = absurd (omega arith)
has_place (x ∷ xs) zero d low = or_left (nat_eq x x) (has xs x) (eq-eqb x x refl)
has_place (x ∷ xs) (suc i) d low = or_right (nat_eq x (get_or xs i d)) (has xs (get_or xs i d)) (has_place xs i d (omega arith))

-- net pieces that pass a test are objects
pub nets_below : (design : FlatDesign) (test : ℕ → Bool) (nets : List ObjectId) → map object_number nets ≡ filter test (net_pieces design) →
    All (λ (net : ObjectId). object_number net < length design.objects) nets
nets_below design test nets is i d low =
    let itself : get_or (map object_number nets) i (object_number d) ≡ object_number (get_or nets i d) = get_or-map object_number nets i d (object_number d) low in
    let there : has (map object_number nets) (get_or (map object_number nets) i (object_number d)) ≡ true = has_place (map object_number nets) i (object_number d) (rw length-map low) in
    let net : has (net_pieces design) (get_or (map object_number nets) i (object_number d)) ≡ true =
    has_filtered test (net_pieces design) (get_or (map object_number nets) i (object_number d)) (subst (λ l. has l (get_or (map object_number nets) i (object_number d)) ≡ true) is there) in
    let bound = numbers_of-bound _ 0 design.objects (get_or (map object_number nets) i (object_number d)) net in
    omega (arith, bound, itself)

-- the net pieces that a change settles are objects
pub settled_below : (design : FlatDesign) (changes : List ℕ) (object : ℕ) (nets : List ObjectId) → map object_number nets ≡ settled_nets design changes object →
    All (λ (net : ObjectId). object_number net < length design.objects) nets
settled_below design changes object nets is = nets_below design (λ net. is_wild design changes net && nat_lt 0 (paths design object net)) nets is

-- What changed in the phase

-- a number of one of some lists
pub has_joined : {A : Type 0} (f : A → List ℕ) (xs : List A) (i : ℕ) (d : A) (n : ℕ) → i < length xs → has (f (get_or xs i d)) n ≡ true → has (joined (map f xs)) n ≡ true
has_joined f [] i d n low e = absurd (omega arith)
has_joined f (x ∷ xs) zero d n low e = has-append (f x) (joined (map f xs)) n ∙ or_left (has (f x) n) (has (joined (map f xs)) n) e
has_joined f (x ∷ xs) (suc i) d n low e = has-append (f x) (joined (map f xs)) n ∙ or_right (has (f x) n) (has (joined (map f xs)) n) (has_joined f xs i d n (omega arith) e)

-- what an event changes is a change of the phase
pub changed_in_phase : (design : FlatDesign) (log : LoggedPhase) (event object : ℕ) → event < length log.events → has (changes_of design (accesses_at log event)) object ≡ true →
    has (phase_changes design log) object ≡ true
changed_in_phase design log event object low e =
    has_joined (λ (logged : LoggedEvent). changes_of design logged.accesses) log.events event no_event object low (subst (λ l. has (changes_of design l) object ≡ true) (event_at log event low) e)

-- what an access changes is a change of its event
pub changed_in_event : (design : FlatDesign) (accesses : List ObjectAccess) (i : ℕ) (access : ObjectAccess) (object : ℕ) → i < length accesses → access ≡ get_or accesses i access →
    has (change_of design access.act access.object) object ≡ true → has (changes_of design accesses) object ≡ true
changed_in_event design accesses i access object low is e =
    has_joined (λ (a : ObjectAccess). change_of design a.act a.object) accesses i access object low (subst (λ (a : ObjectAccess). has (change_of design a.act a.object) object ≡ true) is e)

-- The whole phase

-- the accesses of the first events
abbrev pub accesses_before : FlatDesign → LoggedPhase → ℕ → List PhaseAccess
accesses_before design log n = joined (map_numbered (event_accesses design (phase_changes design log)) 0 (take n log.events))

numbered-append : {A B : Type 0} (f : ℕ → A → B) (n : ℕ) (xs : List A) (x : A) → map_numbered f n (xs ++ x ∷ []) ≡ map_numbered f n xs ++ f (n + length xs) x ∷ []
numbered-append f n [] x = ap (λ m. f m x ∷ []) (let e : n ≡ n + 0 = omega arith in e)
numbered-append f n (y ∷ xs) x =
    ap (λ l. f n y ∷ l) (numbered-append f (n + 1) xs x ∙ ap (λ m. map_numbered f (n + 1) xs ++ f m x ∷ []) (let e : n + 1 + length xs ≡ n + suc (length xs) = omega arith in e))

-- one more event
pub accesses_before-more : (design : FlatDesign) (log : LoggedPhase) (n : ℕ) → n < length log.events →
    accesses_before design log (n + 1) ≡ accesses_before design log n ++ map (numbered_at n) (counted_accesses design (phase_changes design log) (accesses_at log n))
accesses_before-more design log n low =
    let f : ℕ → LoggedEvent → List PhaseAccess = event_accesses design (phase_changes design log) in
    let before : List LoggedEvent = take n log.events in
    ap (λ l. joined (map_numbered (event_accesses design (phase_changes design log)) 0 l)) (take_more log.events n no_event low)
    ∙ ap joined (numbered-append (event_accesses design (phase_changes design log)) 0 before (get_or log.events n no_event))
    ∙ joined-append (map_numbered (event_accesses design (phase_changes design log)) 0 before) (f (0 + length before) (get_or log.events n no_event) ∷ [])
    ∙ ap (λ l. accesses_before design log n ++ l) (append-nil (f (0 + length before) (get_or log.events n no_event)))
    ∙ ap (λ m. accesses_before design log n ++ f m (get_or log.events n no_event)) (let long = length-take-le n log.events (omega arith) in let e : 0 + length before ≡ n = omega (arith, long) in e)
    ∙ ap (λ l. accesses_before design log n ++ map (numbered_at n) (counted_accesses design (phase_changes design log) l)) (sym (event_at log n low))

-- all events
pub accesses_before-all : (design : FlatDesign) (log : LoggedPhase) (n : ℕ) → length log.events ≤ n → map held_at log.held ++ accesses_before design log n ≡ log_accesses design log
accesses_before-all design log n past =
    ap (λ l. map held_at log.held ++ joined (map_numbered (event_accesses design (phase_changes design log)) 0 l)) (take_all n log.events past)

-- What each access has

some_same : (m n : ℕ) → Some m ≡ Some n → m ≡ n
some_same m n e = cc

within_events : (events event : ℕ) → event < events → ForSome (Some event) (λ e. e < events)
within_events events event low e is = subst (λ n. n < events) (some_same event e is) low

comparable : (kind : AccessKind) (old new : Option LogicValue) (entry : Option WaitEdge) → HasParts kind old new entry → HasCheckedParts kind old new entry
comparable Read old new entry h = tt
comparable Write old new entry h = h
comparable Await old new entry h = h
comparable Ended old new entry h = h
comparable Held old new entry h = tt
comparable Settle old new entry h = tt

-- a held entry
pub held_numbered : (events : ℕ) (noted : Noted) → IsHeld noted → IsNumbered events (record { event = None; noted = noted })
held_numbered events noted held = record {
  event = λ e is. absurd (let none : None ≡ Some e = is in cc);
  parts = subst (λ kind. HasCheckedParts kind noted.old noted.new noted.entry) (sym held) tt;
}

-- an access of an event
pub noted_numbered : (events event : ℕ) (noted : Noted) → event < events → IsNoted noted → IsNumbered events (record { event = Some event; noted = noted })
noted_numbered events event noted low is = record { event = within_events events event low; parts = comparable noted.access.kind noted.old noted.new noted.entry is }

-- a settling
pub settling_numbered : (events event : ℕ) (noted : Noted) → event < events → noted.access.kind ≡ Settle → IsNumbered events (record { event = Some event; noted = noted })
settling_numbered events event noted low settles = record {
  event = within_events events event low;
  parts = subst (λ kind. HasCheckedParts kind noted.old noted.new noted.entry) (sym settles) tt;
}
