-- Laws on the changes of a phase (nothing of the language).
use Rattle.std.proofs.Common.{◌≡◌, ℕ, zero, suc, ◌+◌, ◌*◌, ◌<◌, ◌≤◌, Bool, true, false, List, [], ◌∷◌, ◌++◌, length, get_or, set, map, take, None, min, replicate, refl, ap, sym, subst, ◌∙◌, arith}
use Rattle.std.proofs.Common.{inl, inr, append-nil, append_assoc}
use Rattle.std.specs.Prelude.{nat_eq, ◌||◌, sum_by, slice_get}
use Rattle.std.proofs.lemmas.Bool.{ne_eqb, eq-eqb, cases_eq}
use Rattle.std.proofs.lemmas.List.{get_or-set_same, get_or-set_other, take_more, map_push, take_all, get_or-map, length-map}
use Rattle.std.proofs.lemmas.List.Sums.{sum_by-append}
use Rattle.vf_base.specs.Lists.{joined, has, AllHold}
use Rattle.v_design.specs.States.{found_or}
use Rattle.v_design.specs.Designs.{FlatObject, FlatDesign}
use Rattle.v_design.specs.Paths.{numbers_of, net_pieces, is_net}
use Rattle.v_design.specs.Accesses.{ObjectAccess}
use Rattle.v_design.specs.Logs.{LoggedEvent, LoggedPhase, change_of, changes_of, phase_changes}
use Rattle.graph_order.specs.ListLaws.{still_has}
use Rattle.causal_monitor.specs.declared.noted.Noted.{Noted}
use Rattle.causal_monitor.specs.Notes.{noted_access}
use Rattle.causal_monitor.specs.Phases.{accesses_at, NameObjects, IsLogOf}
use Rattle.net_graph.specs.Tables.{weighted}
use Rattle.causal_monitor.specs.Changes.{CountChanges}

true_false : true ≡ false → ⊥
true_false e = cc

-- Lists

-- a fact of the element at a place
pub AllHold-at : {A : Type 0} (P : A → Type 0) (xs : List A) (i : ℕ) (d : A) → AllHold P xs → i < length xs → P (get_or xs i d)
AllHold-at P [] i d h low = absurd (omega arith)
AllHold-at P (x ∷ xs) zero d h low = h.0
AllHold-at P (x ∷ xs) (suc i) d h low = AllHold-at P xs i d h.1 (omega arith)

-- the lists of two lists of lists
pub joined-append : {A : Type 0} (xs ys : List (List A)) → joined (xs ++ ys) ≡ joined xs ++ joined ys
joined-append [] ys = refl
joined-append (x ∷ xs) ys = ap (λ l. x ++ l) (joined-append xs ys) ∙ sym (append_assoc x (joined xs) (joined ys))

-- one more list
pub joined-more : {A B : Type 0} (f : A → List B) (xs : List A) (i : ℕ) (d : A) → i < length xs → joined (map f (take (i + 1) xs)) ≡ joined (map f (take i xs)) ++ f (get_or xs i d)
joined-more f xs i d low =
    ap (λ l. joined (map f l)) (take_more xs i d low) ∙ ap joined (map_push f (take i xs) (get_or xs i d)) ∙ joined-append (map f (take i xs)) (f (get_or xs i d) ∷ [])
    ∙ ap (λ l. joined (map f (take i xs)) ++ l) (append-nil (f (get_or xs i d)))

-- all lists
pub joined-all : {A B : Type 0} (f : A → List B) (xs : List A) (i : ℕ) → length xs ≤ i → joined (map f (take i xs)) ≡ joined (map f xs)
joined-all f xs i past = ap (λ l. joined (map f l)) (take_all i xs past)

-- Net pieces

not_low : (test : FlatObject → Bool) (number : ℕ) (objects : List FlatObject) (o : ℕ) → o < number → has (numbers_of test number objects) o ≡ false
not_low test number [] o low = refl
not_low test number (object ∷ objects) o low =
    let rest : has (numbers_of test (number + 1) objects) o ≡ false = not_low test (number + 1) objects o (omega arith) in
    elim (test object) as (λ b. has (elim b [ true ↦ number ∷ numbers_of test (number + 1) objects | false ↦ numbers_of test (number + 1) objects ]) o ≡ false) [
      | true ↦ ap (λ b. b || has (numbers_of test (number + 1) objects) o) (ne_eqb number o (λ e. omega arith)) ∙ rest
      | false ↦ rest
    ]

-- a number is among those of the objects that pass, where its object passes
has-numbers_of : (test : FlatObject → Bool) (number : ℕ) (objects : List FlatObject) (o : ℕ) (d : FlatObject) → o < length objects →
    has (numbers_of test number objects) (number + o) ≡ test (get_or objects o d)
has-numbers_of test number [] o d low = absurd (omega arith)
has-numbers_of test number (object ∷ objects) zero d low =
    let here : nat_eq number (number + 0) ≡ true = eq-eqb number (number + 0) (omega arith) in
    let rest : has (numbers_of test (number + 1) objects) (number + 0) ≡ false = not_low test (number + 1) objects (number + 0) (omega arith) in
    elim (test object) as (λ b. has (elim b [ true ↦ number ∷ numbers_of test (number + 1) objects | false ↦ numbers_of test (number + 1) objects ]) (number + 0) ≡ b) [
      | true ↦ ap (λ b. b || has (numbers_of test (number + 1) objects) (number + 0)) here
      | false ↦ rest
    ]
has-numbers_of test number (object ∷ objects) (suc o) d low =
    let other : nat_eq number (number + suc o) ≡ false = ne_eqb number (number + suc o) (λ e. omega arith) in
    let rest : has (numbers_of test (number + 1) objects) (number + suc o) ≡ test (get_or objects o d) =
    ap (has (numbers_of test (number + 1) objects)) (let e : number + suc o ≡ number + 1 + o = omega arith in e) ∙ has-numbers_of test (number + 1) objects o d (omega arith) in
    elim (test object) as (λ b. has (elim b [ true ↦ number ∷ numbers_of test (number + 1) objects | false ↦ numbers_of test (number + 1) objects ]) (number + suc o) ≡ test (get_or objects o d)) [
      | true ↦ ap (λ b. b || has (numbers_of test (number + 1) objects) (number + suc o)) other ∙ rest
      | false ↦ rest
    ]

-- whether an object of a design is a net piece
pub net_by_kind : (design : FlatDesign) (o : ℕ) (d : FlatObject) → o < length design.objects → has (net_pieces design) o ≡ is_net (get_or design.objects o d).kind
net_by_kind design o d low =
    ap (has (net_pieces design)) (let e : o ≡ 0 + o = omega arith in e) ∙ has-numbers_of (λ (object : FlatObject). is_net object.kind) 0 design.objects o d low

-- Counting

weighted-here : (f : ℕ → ℕ) (number : ℕ) (counts : List ℕ) (o : ℕ) → o < length counts →
    weighted f number (set counts o (get_or counts o 0 + 1)) ≡ weighted f number counts + f (number + o)
weighted-here f number [] o low = absurd (omega arith)
weighted-here f number (count ∷ counts) zero low =
    let product : (count + 1) * f number ≡ count * f number + f number = grind arith in
    let same : f (number + 0) ≡ f number = ap f (let e : number + 0 ≡ number = omega arith in e) in
    omega (arith, product, same)
weighted-here f number (count ∷ counts) (suc o) low =
    let rest = weighted-here f (number + 1) counts o (omega arith) in
    let same : f (number + 1 + o) ≡ f (number + suc o) = ap f (let e : number + 1 + o ≡ number + suc o = omega arith in e) in
    omega (arith, rest, same)

weighted-le : (f : ℕ → ℕ) (number : ℕ) (counts : List ℕ) (o : ℕ) → o < length counts → get_or counts o 0 * f (number + o) ≤ weighted f number counts
weighted-le f number [] o low = absurd (omega arith)
weighted-le f number (count ∷ counts) zero low =
    let same : f (number + 0) ≡ f number = ap f (let e : number + 0 ≡ number = omega arith in e) in
    let term : count * f (number + 0) ≡ count * f number = ap (λ n. count * n) same in
    omega (arith, term)
weighted-le f number (count ∷ counts) (suc o) low =
    let rest = weighted-le f (number + 1) counts o (omega arith) in
    let same : get_or counts o 0 * f (number + 1 + o) ≡ get_or counts o 0 * f (number + suc o) = ap (λ n. get_or counts o 0 * f n) (let e : number + 1 + o ≡ number + suc o = omega arith in e) in
    omega (arith, rest, same)

-- a sum with one more change
sum_by-more : (f : ℕ → ℕ) (changes : List ℕ) (o : ℕ) → sum_by f (changes ++ o ∷ []) ≡ sum_by f changes + f o
sum_by-more f changes o = let both = sum_by-append f changes (o ∷ []) in omega (arith, both)

seen_more : (changes counts later : List ℕ) (o : ℕ) → ((p : ℕ) → has changes p ≡ true → 0 < get_or counts p 0) → ((p : ℕ) → get_or counts p 0 ≤ get_or later p 0) → 0 < get_or later o 0 →
    (p : ℕ) → has (changes ++ o ∷ []) p ≡ true → 0 < get_or later p 0
seen_more changes counts later o seen more here p there =
    elim (cases_eq p o) [
      | inl same ↦ subst (λ q. 0 < get_or later q 0) (sym same) here
      | inr other ↦ let before = seen p (sym (still_has changes o p other) ∙ there) in let le = more p in omega arith
    ]

-- a change of an object that changed less than twice
pub CountChanges-here : (changes counts : List ℕ) (o : ℕ) → o < length counts → CountChanges changes counts → CountChanges (changes ++ o ∷ []) (set counts o (get_or counts o 0 + 1))
CountChanges-here changes counts o low had = record {
  sums = λ f.
      let sums = had.sums f in
      let here = weighted-here f 0 counts o low in
      let more = sum_by-more f changes o in
      let same : f (0 + o) ≡ f o = ap f (let e : 0 + o ≡ o = omega arith in e) in
      omega (arith, sums, here, more, same);
  seen =
      seen_more changes counts (set counts o (get_or counts o 0 + 1)) o had.seen
      (λ p. elim (cases_eq p o) [
        | inl same ↦
            let now : get_or (set counts o (get_or counts o 0 + 1)) p 0 ≡ get_or counts o 0 + 1 = ap (λ q. get_or (set counts o (get_or counts o 0 + 1)) q 0) same
            ∙ get_or-set_same counts o (get_or counts o 0 + 1) 0 low in
            let was : get_or counts p 0 ≡ get_or counts o 0 = ap (λ q. get_or counts q 0) same in
            omega (arith, now, was)
        | inr other ↦ let kept = get_or-set_other counts o p (get_or counts o 0 + 1) 0 other in omega (arith, kept)
      ])
      (let now = get_or-set_same counts o (get_or counts o 0 + 1) 0 low in omega (arith, now));
}

-- a change of an object that changed twice already
pub CountChanges-past : (changes counts : List ℕ) (o : ℕ) → o < length counts → 2 ≤ get_or counts o 0 → CountChanges changes counts → CountChanges (changes ++ o ∷ []) counts
CountChanges-past changes counts o low twice had = record {
  sums = λ f.
      let sums = had.sums f in
      let le = weighted-le f 0 counts o low in
      let more = sum_by-more f changes o in
      let same : f (0 + o) ≡ f o = ap f (let e : 0 + o ≡ o = omega arith in e) in
      let term : get_or counts o 0 * f (0 + o) ≡ get_or counts o 0 * f o = ap (λ n. get_or counts o 0 * n) same in
      let double : 2 * f o ≤ get_or counts o 0 * f o = at_least (get_or counts o 0) (f o) twice in
      omega (arith, sums, le, more, term, double);
  seen = seen_more changes counts counts o had.seen (λ p. omega arith) (omega (arith, twice));
}
  where
    at_least : (m n : ℕ) → 2 ≤ m → 2 * n ≤ m * n
    at_least m n le = grind arith

-- no changes
pub CountChanges-none : (count : ℕ) → CountChanges [] (replicate count 0)
CountChanges-none count = record {
  sums = λ f. ap (min 2) (zeros f 0 count);
  seen = λ o there. absurd (true_false (sym there));
}
  where
    zeros : (f : ℕ → ℕ) (number n : ℕ) → weighted f number (replicate n 0) ≡ 0
    zeros f number zero = refl
    zeros f number (suc n) = let rest = zeros f (number + 1) n in let none : 0 * f number ≡ 0 = grind arith in omega (arith, rest, none)

-- The accesses of a log

-- no event
abbrev pub no_event : LoggedEvent
no_event = record { cause = None; accesses = [] }

found_at : {A B : Type 0} (f : A → B) (xs : List A) (n : ℕ) (d : A) (e : B) → n < length xs → found_or e (slice_get (map f xs) n) ≡ f (get_or xs n d)
found_at f [] n d e low = absurd (omega arith)
found_at f (x ∷ xs) zero d e low = refl
found_at f (x ∷ xs) (suc n) d e low = found_at f xs n d e (omega arith)

-- the accesses of an event
pub event_at : (log : LoggedPhase) (n : ℕ) → n < length log.events → accesses_at log n ≡ (get_or log.events n no_event).accesses
event_at log n low = found_at (λ (event : LoggedEvent). event.accesses) log.events n no_event [] low

-- they are of the design's objects
pub names_at : (design : FlatDesign) (log : LoggedPhase) → IsLogOf design log → (n : ℕ) → n < length log.events → NameObjects design (accesses_at log n)
names_at design log is n low =
    subst (NameObjects design) (sym (event_at log n low)) (AllHold-at (λ (event : LoggedEvent). NameObjects design event.accesses) log.events n no_event is.noted low)

-- One more access, one more event

-- the changes of one more access
pub changes_of-more : (design : FlatDesign) (accesses : List ObjectAccess) (i : ℕ) (access : ObjectAccess) → i < length accesses → access ≡ get_or accesses i access →
    changes_of design (take (i + 1) accesses) ≡ changes_of design (take i accesses) ++ change_of design access.act access.object
changes_of-more design accesses i access low is =
    joined-more (λ (a : ObjectAccess). change_of design a.act a.object) accesses i access low
    ∙ ap (λ (a : ObjectAccess). changes_of design (take i accesses) ++ change_of design a.act a.object) (sym is)

-- counts after one more access
pub counts_more : (design : FlatDesign) (accesses : List ObjectAccess) (i : ℕ) (access : ObjectAccess) (before counts later : List ℕ) → i < length accesses → access ≡ get_or accesses i access →
    ((changes : List ℕ) → CountChanges changes before → CountChanges (changes ++ changes_of design (take i accesses)) counts) →
    ((changes : List ℕ) → CountChanges changes counts → CountChanges (changes ++ change_of design access.act access.object) later) →
    (changes : List ℕ) → CountChanges changes before → CountChanges (changes ++ changes_of design (take (i + 1) accesses)) later
counts_more design accesses i access before counts later low is had step changes start =
    subst (λ l. CountChanges l later)
    (append_assoc changes (changes_of design (take i accesses)) (change_of design access.act access.object)
    ∙ ap (λ l. changes ++ l) (sym (changes_of-more design accesses i access low is)))
    (step (changes ++ changes_of design (take i accesses)) (had changes start))

-- the changes of the first events
abbrev pub changes_before : FlatDesign → LoggedPhase → ℕ → List ℕ
changes_before design log n = joined (map (λ (event : LoggedEvent). changes_of design event.accesses) (take n log.events))

pub changes_before-more : (design : FlatDesign) (log : LoggedPhase) (n : ℕ) → n < length log.events →
    changes_before design log (n + 1) ≡ changes_before design log n ++ changes_of design (accesses_at log n)
changes_before-more design log n low =
    joined-more (λ (event : LoggedEvent). changes_of design event.accesses) log.events n no_event low
    ∙ ap (λ l. changes_before design log n ++ changes_of design l) (sym (event_at log n low))

pub changes_before-all : (design : FlatDesign) (log : LoggedPhase) (n : ℕ) → length log.events ≤ n → changes_before design log n ≡ phase_changes design log
changes_before-all design log n past = joined-all (λ (event : LoggedEvent). changes_of design event.accesses) log.events n past

-- an access that is read, as plain data
pub read_noted : (accesses : List Noted) (i : ℕ) (noted : Noted) → i < length accesses → noted ≡ get_or accesses i noted →
    noted_access noted ≡ get_or (map noted_access accesses) i (noted_access noted)
read_noted accesses i noted low is = ap noted_access is ∙ sym (get_or-map noted_access accesses i noted (noted_access noted) low)

-- an access that is read is of an object of the design
pub read_object : (design : FlatDesign) (accesses : List Noted) (i : ℕ) (noted : Noted) → i < length accesses → noted ≡ get_or accesses i noted → NameObjects design (map noted_access accesses) →
    (noted_access noted).object < length design.objects
read_object design accesses i noted low is names =
    subst (λ (a : ObjectAccess). a.object < length design.objects) (sym (read_noted accesses i noted low is))
    (AllHold-at (λ (a : ObjectAccess). a.object < length design.objects) (map noted_access accesses) i (noted_access noted) names (rw length-map low))

-- an access that is read has what the others have
pub read_hold : (P : Noted → Type 0) (accesses : List Noted) (i : ℕ) (noted : Noted) → i < length accesses → noted ≡ get_or accesses i noted → AllHold P accesses → P noted
read_hold P accesses i noted low is all = subst P (sym is) (AllHold-at P accesses i noted all low)
