-- A pass over the declarations, one at a time.
use Rattle.std.proofs.Common.{◌≡◌, ℕ, zero, suc, ◌+◌, ◌≤◌, ◌<◌, Bool, true, false, ◌||◌, cond, List, [], ◌∷◌, ◌++◌, map, take, drop, get_or, length, Option, Some, None, option_map, refl, sym, ap}
use Rattle.std.proofs.Common.{ap₂, ◌∙◌, subst, arith}
use Rattle.std.proofs.lemmas.List.{map-append, take_more}
use Rattle.v_tree.specs.Trees.{Identifier, same_name}
use Rattle.v_names.specs.Scopes.{SignedValue, ScopeEntry, ScopeName, Scope, looked_up, is_waiting}
use Rattle.v_names.specs.SizeViews.{signed_value}
use Rattle.v_names.specs.declared.constant.Constant.{Constant}
use Rattle.v_names.specs.Names.{Declaration, GivenParameter, given_of, given_if, meaning_of, meanings, is_parameter_declared, scope_after}
use Rattle.module_scope.specs.Kept.{kept}
use Rattle.module_scope.specs.Givens.{given_seen, given_first, value_or}
use Rattle.module_scope.specs.Meanings.{meaning_with, meaning-is}
use Rattle.v_names.specs.Meanings.{named_by}
use Rattle.module_scope.specs.Settled.{waiting_left, IsSettled, AreStill, AreApart, IsTurn, IsPassed, OnlyParametersWait}
use Rattle.module_scope.proofs.Maps.{equal-same}
use Rattle.module_scope.proofs.Apart.{found-at, not-declared}
use Rattle.name_checks.specs.Rows.{drop-step, drop-past}
use Rattle.module_scope.proofs.Settling.{settle-turn, settle-fewer}

kept-by : (v : Constant) (others : Option Constant) (rest : Option SignedValue) (b : Bool) → option_map signed_value others ≡ rest →
    option_map signed_value (cond b (Some v) others) ≡ given_if b (signed_value v) rest
kept-by v others rest true e = refl
kept-by v others rest false e = e

-- the value that is kept of a name is that of the given parameter
pub given-kept : (pairs : List (List ℕ × Constant)) (name : Identifier) → option_map signed_value (kept pairs name) ≡ given_of (given_seen pairs) name
given-kept [] name = refl
given-kept (p ∷ pairs) name = kept-by p.1 (kept pairs name) (given_of (given_seen pairs) name) (same_name p.0 name) (given-kept pairs name)

get-mapped : {A : Type 0} (view : A → Declaration) (xs : List A) (i : ℕ) (x : A) → i < length xs → x ≡ get_or xs i x → view x ≡ get_or (map view xs) i (view x)
get-mapped view [] i x below at = absurd (omega arith)
get-mapped view (y ∷ ys) zero x below at = ap view at
get-mapped view (y ∷ ys) (suc i) x below at = get-mapped view ys i x (omega arith) at

length-mapped : {A : Type 0} (view : A → Declaration) (xs : List A) → length (map view xs) ≡ length xs
length-mapped view [] = refl
length-mapped view (x ∷ xs) = ap (λ n. suc n) (length-mapped view xs)

below-mapped : {A : Type 0} (view : A → Declaration) (xs : List A) (i : ℕ) → i < length xs → i < length (map view xs)
below-mapped view xs i below = let e = length-mapped view xs in omega (arith, e)

-- a turn keeps what is settled, and none waits more
pub turn-settled : (given : List GivenParameter) (ds : List Declaration) (now new : Scope) (turned : Bool) (i : ℕ) (d : Declaration) → AreApart ds → i < length ds → d ≡ get_or ds i d
    → IsSettled given ds now → IsTurn (given_of given d.name) d now new turned → IsSettled given ds new
turn-settled given ds now new true i d apart below at s t =
    let means : meaning_with now (given_of given d.name) d.declared ≡ meaning_of now given d.name d.declared = sym (meaning-is now given d.name d.declared) in
    settle-turn given ds now new i d (meaning_with now (given_of given d.name) d.declared) s below at (found-at ds i d apart below at) (equal-same d.name d.name refl) t.0 means t.1 t.2
turn-settled given ds now new false i d apart below at s t = subst (IsSettled given ds) (sym t.0) s

pub turn-fewer : (given : List GivenParameter) (ds : List Declaration) (now new : Scope) (turned : Bool) (i : ℕ) (d : Declaration) → i < length ds → d ≡ get_or ds i d
    → IsTurn (given_of given d.name) d now new turned → waiting_left new ds ≤ waiting_left now ds
turn-fewer given ds now new true i d below at t =
    let one = settle-fewer ds now new i d (meaning_with now (given_of given d.name) d.declared) below at (equal-same d.name d.name refl) t.0 t.1 t.2 in omega (arith, one)
turn-fewer given ds now new false i d below at t = let same : waiting_left new ds ≡ waiting_left now ds = ap (λ s. waiting_left s ds) t.0 in omega (arith, same)

-- a turn of one of the code's declarations
pub turn-seen : {A : Type 0} (view : A → Declaration) (xs : List A) (i : ℕ) (x : A) (pairs : List (List ℕ × Constant)) (value : Option Constant) (now new : Scope) (turned : Bool) →
    AreApart (map view xs) → i < length xs → x ≡ get_or xs i x
    → IsSettled (given_seen pairs) (map view xs) now → value ≡ kept pairs (view x).name → IsTurn (option_map signed_value value) (view x) now new turned
    → IsSettled (given_seen pairs) (map view xs) new × (waiting_left new (map view xs) ≤ waiting_left now (map view xs))
turn-seen {A} view xs i x pairs value now new turned apart below at s e t =
    let P : Option SignedValue → Type 0 = λ g. IsTurn g (view x) now new turned in
    let turn : IsTurn (given_of (given_seen pairs) (view x).name) (view x) now new turned = subst P (ap (option_map signed_value) e ∙ given-kept pairs (view x).name) t in
    let there = below-mapped view xs i below in
    let is = get-mapped view xs i x below at in
    (turn-settled (given_seen pairs) (map view xs) now new turned i (view x) apart there is s turn, turn-fewer (given_seen pairs) (map view xs) now new turned i (view x) there is turn)

-- the state of a pass
pub record IsUnderWay (given : List GivenParameter) (ds : List Declaration) (old now : Scope) (changed : Bool) (rest : List Declaration) : Type 0 where
  pub settled : IsSettled given ds now
  pub fewer : changed ≡ true → waiting_left now ds + 1 ≤ waiting_left old ds
  pub same : changed ≡ false → now ≡ old
  pub still : changed ≡ false → AreStill given now rest → AreStill given now ds

pub way-start : (given : List GivenParameter) (ds : List Declaration) (old : Scope) → IsSettled given ds old → IsUnderWay given ds old old false ds
way-start given ds old s = record { settled = s; fewer = λ (e : false ≡ true). absurd (let x : ⊥ = cc in x); same = λ e. refl; still = λ e h. h }

way-by : (given : List GivenParameter) (ds : List Declaration) (old now new : Scope) (changed turned : Bool) (i : ℕ) (d : Declaration) (rest : List Declaration) → AreApart ds → i < length ds →
    d ≡ get_or ds i d
    → IsUnderWay given ds old now changed (d ∷ rest) → IsTurn (given_of given d.name) d now new turned → IsUnderWay given ds old new (changed || turned) rest
way-by given ds old now new true true i d rest apart below at w t =
    let means : meaning_with now (given_of given d.name) d.declared ≡ meaning_of now given d.name d.declared = sym (meaning-is now given d.name d.declared) in
    let self = equal-same d.name d.name refl in
    let one = settle-fewer ds now new i d (meaning_with now (given_of given d.name) d.declared) below at self t.0 t.1 t.2 in
    let two = w.fewer refl in
    record {
      settled = settle-turn given ds now new i d (meaning_with now (given_of given d.name) d.declared) w.settled below at (found-at ds i d apart below at) self t.0 means t.1 t.2;
      fewer = λ e. omega (arith, one, two);
      same = λ (e : true ≡ false). absurd (let x : ⊥ = cc in x);
      still = λ (e : true ≡ false) h. absurd (let x : ⊥ = cc in x);
    }
way-by given ds old now new false true i d rest apart below at w t =
    let means : meaning_with now (given_of given d.name) d.declared ≡ meaning_of now given d.name d.declared = sym (meaning-is now given d.name d.declared) in
    let self = equal-same d.name d.name refl in
    let one = settle-fewer ds now new i d (meaning_with now (given_of given d.name) d.declared) below at self t.0 t.1 t.2 in
    let two : waiting_left now ds ≡ waiting_left old ds = ap (λ s. waiting_left s ds) (w.same refl) in
    record {
      settled = settle-turn given ds now new i d (meaning_with now (given_of given d.name) d.declared) w.settled below at (found-at ds i d apart below at) self t.0 means t.1 t.2;
      fewer = λ e. omega (arith, one, two);
      same = λ (e : true ≡ false). absurd (let x : ⊥ = cc in x);
      still = λ (e : true ≡ false) h. absurd (let x : ⊥ = cc in x);
    }
way-by given ds old now new true false i d rest apart below at w t =
    let is : now ≡ new = sym t.0 in
    record {
      settled = subst (IsSettled given ds) is w.settled;
      fewer = λ e. let P : Scope → Type 0 = λ s. waiting_left s ds + 1 ≤ waiting_left old ds in subst P is (w.fewer refl);
      same = λ (e : true ≡ false). absurd (let x : ⊥ = cc in x);
      still = λ (e : true ≡ false) h. absurd (let x : ⊥ = cc in x);
    }
way-by given ds old now new false false i d rest apart below at w t =
    let is : now ≡ new = sym t.0 in
    let P : Scope → Type 0 = λ s. AreStill given s rest → AreStill given s ds in
    record {
      settled = subst (IsSettled given ds) is w.settled;
      fewer = λ (e : false ≡ true). absurd (let x : ⊥ = cc in x);
      same = λ e. t.0 ∙ w.same refl;
      still = λ e. subst P is (λ h. w.still refl (λ v. ap (λ m. is_waiting (Some m)) (meaning-is now given d.name d.declared) ∙ t.1 v, h));
    }

pub way-turn : (pairs : List (List ℕ × Constant)) (ds : List Declaration) (old now new : Scope) (changed turned changed' : Bool) (i : ℕ) (d : Declaration) (rest : List Declaration) → AreApart ds →
    i < length ds → d ≡ get_or ds i d
    → IsUnderWay (given_seen pairs) ds old now changed (d ∷ rest) → IsTurn (option_map signed_value (kept pairs d.name)) d now new turned → changed' ≡ (changed || turned) →
    IsUnderWay (given_seen pairs) ds old new changed' rest
way-turn pairs ds old now new changed turned changed' i d rest apart below at w t e =
    let P : Option SignedValue → Type 0 = λ g. IsTurn g d now new turned in
    let R : Bool → Type 0 = λ b. IsUnderWay (given_seen pairs) ds old new b rest in
    subst R (sym e) (way-by (given_seen pairs) ds old now new changed turned i d rest apart below at w (subst P (given-kept pairs d.name) t))

pub way-end : (given : List GivenParameter) (ds : List Declaration) (old now : Scope) (changed : Bool) → IsUnderWay given ds old now changed [] → IsPassed given ds old now changed
way-end given ds old now true w = (w.settled, w.fewer refl)
way-end given ds old now false w = (w.settled, w.still refl tt)

-- What waits

parameter-at : (given : List GivenParameter) (ds : List Declaration) (scope : Scope) (i : ℕ) (d : Declaration) → AreApart ds → IsSettled given ds scope → i < length ds → d ≡ get_or ds i d →
    OnlyParametersWait scope d
parameter-at given ds scope i d apart s below at w =
    let it = s.waits d.name w in
    ap (λ (x : Declaration). is_parameter_declared x.declared) (some d it.0 (sym (found-at ds i d apart below at) ∙ it.1)) ∙ it.2
  where
    some : (a b : Declaration) → Some a ≡ Some b → a ≡ b
    some a b e = cc

pub parameter-seen : {A : Type 0} (view : A → Declaration) (xs : List A) (i : ℕ) (x : A) (given : List GivenParameter) (scope : Scope) → AreApart (map view xs) → IsSettled given (map view xs) scope →
    i < length xs → x ≡ get_or xs i x → OnlyParametersWait scope (view x)
parameter-seen view xs i x given scope apart s below at = parameter-at given (map view xs) scope i (view x) apart s (below-mapped view xs i below) (get-mapped view xs i x below at)

-- A scope that is declared one name at a time

pub named-turn : (f : Declaration → ScopeEntry) (ds : List Declaration) (i : ℕ) (d : Declaration) (entry : ScopeEntry) (scope new : Scope) → i < length ds → d ≡ get_or ds i d → entry ≡ f d →
    scope ≡ named_by f (take i ds)
    → new ≡ scope ++ record { name = d.name; entry = entry } ∷ [] → new ≡ named_by f (take (i + 1) ds)
named-turn f ds i d entry scope new below at e s n =
    let P : Declaration → ScopeName = λ x. record { name = x.name; entry = f x } in
    n ∙ ap₂ (λ (xs : Scope) (m : ScopeEntry). xs ++ record { name = d.name; entry = m } ∷ []) s e
    ∙ ap (λ (x : Declaration). named_by f (take i ds) ++ P x ∷ []) at
    ∙ sym (map-append P (take i ds) (get_or ds i d ∷ []))
    ∙ ap (named_by f) (sym (take_more ds i d below))

-- the scope of the definition depends on what is given by each name alone
meanings-given : (s t : Scope) (one other : List GivenParameter) (ds : List Declaration) → s ≡ t → ((name : Identifier) → given_of one name ≡ given_of other name) →
    meanings s one ds ≡ meanings t other ds
meanings-given s t one other [] e h = refl
meanings-given s t one other (d ∷ ds) e h =
    ap₂ (λ (m : ScopeEntry) (rest : Scope). let n : ScopeName = record { name = d.name; entry = m } in n ∷ rest)
    (ap (λ x. meaning_of x one d.name d.declared) e ∙ meaning-is t one d.name d.declared ∙ ap (λ g. meaning_with t g d.declared) (h d.name) ∙ sym (meaning-is t other d.name d.declared))
    (meanings-given s t one other ds e h)

pub scope-given : (rounds : ℕ) (one other : List GivenParameter) (ds : List Declaration) → ((name : Identifier) → given_of one name ≡ given_of other name) →
    scope_after rounds one ds ≡ scope_after rounds other ds
scope-given zero one other ds h = refl
scope-given (suc rounds) one other ds h = meanings-given (scope_after rounds one ds) (scope_after rounds other ds) one other ds (scope-given rounds one other ds h) h

-- one given parameter more
pub given-turn : (g : GivenParameter) (rest : List GivenParameter) (name : Identifier) (old new whole : Option SignedValue) → new ≡ given_first old g name →
    value_or old (given_of (g ∷ rest) name) ≡ whole → value_or new (given_of rest name) ≡ whole
given-turn g rest name (Some v) new whole e h = ap (λ n. value_or n (given_of rest name)) e ∙ h
given-turn g rest name None new whole e h = by (same_name g.name name) refl
  where
    by : (b : Bool) → same_name g.name name ≡ b → value_or new (given_of rest name) ≡ whole
    by true s = ap (λ n. value_or n (given_of rest name)) (e ∙ ap (λ b. given_if b g.given None) s) ∙ sym (ap (λ b. given_if b g.given (given_of rest name)) s) ∙ h
    by false s = ap (λ n. value_or n (given_of rest name)) (e ∙ ap (λ b. given_if b g.given None) s) ∙ sym (ap (λ b. given_if b g.given (given_of rest name)) s) ∙ h

pub way-step : {A : Type 0} (view : A → Declaration) (xs : List A) (i : ℕ) (x : A) (pairs : List (List ℕ × Constant)) (old now new : Scope) (changed turned changed' : Bool) →
    AreApart (map view xs) → i < length xs → x ≡ get_or xs i x
    → IsUnderWay (given_seen pairs) (map view xs) old now changed (map view (drop i xs)) → IsTurn (option_map signed_value (kept pairs (view x).name)) (view x) now new turned →
    changed' ≡ (changed || turned)
    → IsUnderWay (given_seen pairs) (map view xs) old new changed' (map view (drop (i + 1) xs))
way-step {A} view xs i x pairs old now new changed turned changed' apart below at before t e =
    let P : List A → Type 0 = λ ys. IsUnderWay (given_seen pairs) (map view xs) old now changed (map view ys) in
    way-turn pairs (map view xs) old now new changed turned changed' i (view x) (map view (drop (i + 1) xs)) apart (below-mapped view xs i below) (get-mapped view xs i x below at)
    (subst P (drop-step xs i x below at) before) t e

pub way-last : {A : Type 0} (view : A → Declaration) (xs : List A) (i : ℕ) (given : List GivenParameter) (old now : Scope) (changed : Bool) → length xs ≤ i →
    IsUnderWay given (map view xs) old now changed (map view (drop i xs)) → IsPassed given (map view xs) old now changed
way-last {A} view xs i given old now changed past before =
    let P : List A → Type 0 = λ ys. IsUnderWay given (map view xs) old now changed (map view ys) in
    way-end given (map view xs) old now changed (subst P (drop-past xs i past) before)

pub named-step : {A : Type 0} (f : Declaration → ScopeEntry) (view : A → Declaration) (xs : List A) (i : ℕ) (x : A) (entry : ScopeEntry) (scope new : Scope) → i < length xs → x ≡ get_or xs i x →
    entry ≡ f (view x)
    → scope ≡ named_by f (take i (map view xs)) → new ≡ scope ++ record { name = (view x).name; entry = entry } ∷ [] → new ≡ named_by f (take (i + 1) (map view xs))
named-step f view xs i x entry scope new below at e s n = named-turn f (map view xs) i (view x) entry scope new (below-mapped view xs i below) (get-mapped view xs i x below at) e s n

pub not-there-yet : {A : Type 0} (f : Declaration → ScopeEntry) (view : A → Declaration) (xs : List A) (i : ℕ) (x : A) (scope : Scope) → AreApart (map view xs) → i < length xs → x ≡ get_or xs i x →
    scope ≡ named_by f (take i (map view xs)) → looked_up scope (view x).name ≡ None
not-there-yet f view xs i x scope apart below at s = ap (λ n. looked_up n (view x).name) s
    ∙ not-declared f (map view xs) i (view x) apart (below-mapped view xs i below) (get-mapped view xs i x below at)

take-past : {A : Type 0} (xs : List A) (i : ℕ) → length xs ≤ i → take i xs ≡ xs
take-past [] zero e = refl
take-past [] (suc i) e = refl
take-past (x ∷ xs) zero e = absurd (omega arith)
take-past (x ∷ xs) (suc i) e = ap (λ ys. x ∷ ys) (take-past xs i (omega arith))

pub named-end : {A : Type 0} (f : Declaration → ScopeEntry) (view : A → Declaration) (xs : List A) (i : ℕ) (scope : Scope) → length xs ≤ i → scope ≡ named_by f (take i (map view xs)) →
    scope ≡ named_by f (map view xs)
named-end f view xs i scope past s = let e = length-mapped view xs in s ∙ ap (named_by f) (take-past (map view xs) i (omega (arith, e)))

pub passed-true : (given : List GivenParameter) (ds : List Declaration) (old new : Scope) (changed : Bool) → IsPassed given ds old new changed → changed ≡ true →
    IsSettled given ds new × (waiting_left new ds + 1 ≤ waiting_left old ds)
passed-true given ds old new true h e = h
passed-true given ds old new false h e = absurd (let x : ⊥ = cc in x)

pub passed-false : (given : List GivenParameter) (ds : List Declaration) (old new : Scope) (changed : Bool) → IsPassed given ds old new changed → changed ≡ false →
    IsSettled given ds new × AreStill given new ds
passed-false given ds old new true h e = absurd (let x : ⊥ = cc in x)
passed-false given ds old new false h e = h
