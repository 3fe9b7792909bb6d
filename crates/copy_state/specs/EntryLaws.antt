-- What holds of entries by number (nothing of the language).
use Rattle.std.proofs.Common.{◌≡◌, ◌≢◌, ℕ, zero, suc, ◌<◌, ◌≤◌, Bool, true, false, not, cond, List, [], ◌∷◌, length, get_or, refl, ap, subst, sym, ◌∙◌, arith}
use Rattle.std.specs.Prelude.{nat_eq, nat_lt, Option, Some, None, option_map}
use Rattle.std.proofs.lemmas.Bool.{eq-eqb, ne_eqb, eqb-true, eqb-false, ltb-true, ltb-false}
use Rattle.vf_base.specs.Lists.{AllHold}
use Rattle.copy_laws.specs.Differences.{own_of, Ascend}
use Rattle.copy_state.specs.Entries.{with_entry, without_entry, first_from, each_by, numbers, Rise}

-- What is kept under a number

own-with_same_by : {A : Type 0} (t u : Bool) (n : ℕ) (x : A) (e : ℕ × A) (es rest : List (ℕ × A)) → nat_lt e.0 n ≡ t → own_of rest n ≡ Some x →
    own_of (cond t (e ∷ rest) (cond u ((n, x) ∷ es) ((n, x) ∷ e ∷ es))) n ≡ Some x
own-with_same_by true u n x e es rest less more =
    ap (λ (b : Bool). elim b [ true ↦ Some e.1 | false ↦ own_of rest n ]) (ne_eqb e.0 n (λ same. let low : e.0 < n = ltb-true e.0 n less in omega arith)) ∙ more
own-with_same_by false true n x e es rest less more = ap (λ (b : Bool). elim b [ true ↦ Some x | false ↦ own_of es n ]) (eq-eqb n n refl)
own-with_same_by false false n x e es rest less more = ap (λ (b : Bool). elim b [ true ↦ Some x | false ↦ own_of (e ∷ es) n ]) (eq-eqb n n refl)

-- with an entry it is that one under its number
pub own-with_same : {A : Type 0} (n : ℕ) (x : A) (es : List (ℕ × A)) → own_of (with_entry n x es) n ≡ Some x
own-with_same n x [] = ap (λ (b : Bool). elim b [ true ↦ Some x | false ↦ None ]) (eq-eqb n n refl)
own-with_same n x (e ∷ es) = own-with_same_by (nat_lt e.0 n) (nat_eq e.0 n) n x e es (with_entry n x es) refl (own-with_same n x es)

own-with_other_by : {A : Type 0} (t u : Bool) (n m : ℕ) (x : A) (e : ℕ × A) (es rest : List (ℕ × A)) → nat_eq e.0 n ≡ u → n ≢ m → own_of rest m ≡ own_of es m →
    own_of (cond t (e ∷ rest) (cond u ((n, x) ∷ es) ((n, x) ∷ e ∷ es))) m ≡ own_of (e ∷ es) m
own-with_other_by true u n m x e es rest at other more = ap (λ (o : Option _). elim (nat_eq e.0 m) [ true ↦ Some e.1 | false ↦ o ]) more
own-with_other_by false true n m x e es rest at other more =
    ap (λ (b : Bool). elim b [ true ↦ Some x | false ↦ own_of es m ]) (ne_eqb n m other)
    ∙ sym (ap (λ (b : Bool). elim b [ true ↦ Some e.1 | false ↦ own_of es m ]) (ne_eqb e.0 m (λ same. other (sym (eqb-true e.0 n at) ∙ same))))
own-with_other_by false false n m x e es rest at other more = ap (λ (b : Bool). elim b [ true ↦ Some x | false ↦ own_of (e ∷ es) m ]) (ne_eqb n m other)

-- and what it was under each other one
pub own-with_other : {A : Type 0} (n m : ℕ) (x : A) (es : List (ℕ × A)) → n ≢ m → own_of (with_entry n x es) m ≡ own_of es m
own-with_other n m x [] other = ap (λ (b : Bool). elim b [ true ↦ Some x | false ↦ None ]) (ne_eqb n m other)
own-with_other n m x (e ∷ es) other = own-with_other_by (nat_lt e.0 n) (nat_eq e.0 n) n m x e es (with_entry n x es) refl other (own-with_other n m x es other)

own-without_same_by : {A : Type 0} (t : Bool) (n : ℕ) (e : ℕ × A) (rest : List (ℕ × A)) → nat_eq e.0 n ≡ t → own_of rest n ≡ None → own_of (cond (not t) (e ∷ rest) rest) n ≡ None
own-without_same_by true n e rest at more = more
own-without_same_by false n e rest at more = ap (λ (b : Bool). elim b [ true ↦ Some e.1 | false ↦ own_of rest n ]) at ∙ more

-- without an entry there is none under its number
pub own-without_same : {A : Type 0} (n : ℕ) (es : List (ℕ × A)) → own_of (without_entry n es) n ≡ None
own-without_same n [] = refl
own-without_same n (e ∷ es) = own-without_same_by (nat_eq e.0 n) n e (without_entry n es) refl (own-without_same n es)

own-without_other_by : {A : Type 0} (t : Bool) (n m : ℕ) (e : ℕ × A) (es rest : List (ℕ × A)) → nat_eq e.0 n ≡ t → n ≢ m → own_of rest m ≡ own_of es m →
    own_of (cond (not t) (e ∷ rest) rest) m ≡ own_of (e ∷ es) m
own-without_other_by true n m e es rest at other more =
    more ∙ sym (ap (λ (b : Bool). elim b [ true ↦ Some e.1 | false ↦ own_of es m ]) (ne_eqb e.0 m (λ same. other (sym (eqb-true e.0 n at) ∙ same))))
own-without_other_by false n m e es rest at other more = ap (λ (o : Option _). elim (nat_eq e.0 m) [ true ↦ Some e.1 | false ↦ o ]) more

-- and what it was under each other one
pub own-without_other : {A : Type 0} (n m : ℕ) (es : List (ℕ × A)) → n ≢ m → own_of (without_entry n es) m ≡ own_of es m
own-without_other n m [] other = refl
own-without_other n m (e ∷ es) other = own-without_other_by (nat_eq e.0 n) n m e es (without_entry n es) refl other (own-without_other n m es other)

-- Each entry

all-with_by : {A : Type 0} (P : ℕ × A → Type 0) (t u : Bool) (n : ℕ) (x : A) (e : ℕ × A) (es rest : List (ℕ × A)) → P (n, x) → P e → AllHold P es → AllHold P rest →
    AllHold P (cond t (e ∷ rest) (cond u ((n, x) ∷ es) ((n, x) ∷ e ∷ es)))
all-with_by P true u n x e es rest own first all more = (first, more)
all-with_by P false true n x e es rest own first all more = (own, all)
all-with_by P false false n x e es rest own first all more = (own, (first, all))

-- what holds of each entry and of a new one holds of each with the new one
pub all-with : {A : Type 0} (P : ℕ × A → Type 0) (n : ℕ) (x : A) (es : List (ℕ × A)) → P (n, x) → AllHold P es → AllHold P (with_entry n x es)
all-with P n x [] own all = (own, tt)
all-with P n x (e ∷ es) own all = all-with_by P (nat_lt e.0 n) (nat_eq e.0 n) n x e es (with_entry n x es) own all.0 all.1 (all-with P n x es own all.1)

all-without_by : {A : Type 0} (P : ℕ × A → Type 0) (t : Bool) (e : ℕ × A) (rest : List (ℕ × A)) → P e → AllHold P rest → AllHold P (cond (not t) (e ∷ rest) rest)
all-without_by P true e rest first more = more
all-without_by P false e rest first more = (first, more)

-- and without one
pub all-without : {A : Type 0} (P : ℕ × A → Type 0) (n : ℕ) (es : List (ℕ × A)) → AllHold P es → AllHold P (without_entry n es)
all-without P n [] all = tt
all-without P n (e ∷ es) all = all-without_by P (nat_eq e.0 n) e (without_entry n es) all.0 (all-without P n es all.1)

all-own_by : {A : Type 0} (P : ℕ × A → Type 0) (t : Bool) (n : ℕ) (x : A) (e : ℕ × A) (found : Option A) → nat_eq e.0 n ≡ t → P e → (found ≡ Some x → P (n, x)) →
    elim t [ true ↦ Some e.1 | false ↦ found ] ≡ Some x → P (n, x)
all-own_by P true n x e found at first more is =
    let number : e.0 ≡ n = eqb-true e.0 n at in
    let same : e.1 ≡ x = cc in
    subst (λ m. P (m, x)) number (subst (λ y. P (e.0, y)) same first)
all-own_by P false n x e found at first more is = more is

-- it holds of what is kept under a number
pub all-own : {A : Type 0} (P : ℕ × A → Type 0) (n : ℕ) (x : A) (es : List (ℕ × A)) → AllHold P es → own_of es n ≡ Some x → P (n, x)
all-own P n x [] all is = cc
all-own P n x (e ∷ es) all is = all-own_by P (nat_eq e.0 n) n x e (own_of es n) refl all.0 (all-own P n x es all.1) is

all-map : {A : Type 0} (P Q : A → Type 0) (xs : List A) → ((x : A) → P x → Q x) → AllHold P xs → AllHold Q xs
all-map P Q [] each all = tt
all-map P Q (x ∷ xs) each all = (each x all.0, all-map P Q xs each all.1)

own-first : {A : Type 0} (e : ℕ × A) (es : List (ℕ × A)) → own_of (e ∷ es) e.0 ≡ Some e.1
own-first e es = ap (λ (b : Bool). elim b [ true ↦ Some e.1 | false ↦ own_of es e.0 ]) (eq-eqb e.0 e.0 refl)

own-later : {A : Type 0} (n : ℕ) (x : A) (e : ℕ × A) (es : List (ℕ × A)) → AllHold (λ (later : ℕ × A). e.0 < later.0) es → own_of es n ≡ Some x →
    own_of (e ∷ es) n ≡ own_of es n
own-later {A} n x e es above is =
    let less : e.0 < n = all-own (λ (later : ℕ × A). e.0 < later.0) n x es above is in
    ap (λ (b : Bool). elim b [ true ↦ Some e.1 | false ↦ own_of es n ]) (ne_eqb e.0 n (λ same. omega arith))

-- what holds of what is kept under each number holds of each entry, where they ascend
pub all-owned : {A : Type 0} (P : ℕ × A → Type 0) (es : List (ℕ × A)) → Ascend es → ((n : ℕ) (x : A) → own_of es n ≡ Some x → P (n, x)) → AllHold P es
all-owned P [] up each = tt
all-owned {A} P (e ∷ es) up each =
    (each e.0 e.1 (own-first e es), all-owned P es up.1 (λ n x is. each n x (own-later n x e es up.0 is ∙ is)))

-- Ascending

ascend-with_by : {A : Type 0} (t u : Bool) (n : ℕ) (x : A) (e : ℕ × A) (es rest : List (ℕ × A)) → nat_lt e.0 n ≡ t → nat_eq e.0 n ≡ u → Ascend (e ∷ es) →
    (e.0 < n → AllHold (λ (later : ℕ × A). e.0 < later.0) rest) → Ascend rest → Ascend (cond t (e ∷ rest) (cond u ((n, x) ∷ es) ((n, x) ∷ e ∷ es)))
ascend-with_by true u n x e es rest less same up above more = (above (ltb-true e.0 n less), more)
ascend-with_by {A} false true n x e es rest less same up above more = (subst (λ m. AllHold (λ (later : ℕ × A). m < later.0) es) (eqb-true e.0 n same) up.0, up.1)
ascend-with_by {A} false false n x e es rest less same up above more =
    let not_less : n ≤ e.0 = ltb-false e.0 n less in
    let other : e.0 ≡ n → ⊥ = eqb-false e.0 n same in
    let greater : n < e.0 = omega arith in
    ((greater, all-map (λ (later : ℕ × A). e.0 < later.0) (λ (later : ℕ × A). n < later.0) es (λ later low. omega arith) up.0), up)

-- entries that ascend do so with one more
pub ascend-with : {A : Type 0} (n : ℕ) (x : A) (es : List (ℕ × A)) → Ascend es → Ascend (with_entry n x es)
ascend-with n x [] up = (tt, tt)
ascend-with {A} n x (e ∷ es) up =
    ascend-with_by (nat_lt e.0 n) (nat_eq e.0 n) n x e es (with_entry n x es) refl refl up (λ low. all-with (λ (later : ℕ × A). e.0 < later.0) n x es low up.0) (ascend-with n x es up.1)

ascend-without_by : {A : Type 0} (t : Bool) (e : ℕ × A) (rest : List (ℕ × A)) → AllHold (λ (later : ℕ × A). e.0 < later.0) rest → Ascend rest → Ascend (cond (not t) (e ∷ rest) rest)
ascend-without_by true e rest above more = more
ascend-without_by false e rest above more = (above, more)

-- and without one
pub ascend-without : {A : Type 0} (n : ℕ) (es : List (ℕ × A)) → Ascend es → Ascend (without_entry n es)
ascend-without n [] up = tt
ascend-without {A} n (e ∷ es) up =
    ascend-without_by (nat_eq e.0 n) e (without_entry n es) (all-without (λ (later : ℕ × A). e.0 < later.0) n es up.0) (ascend-without n es up.1)

above-all : {A : Type 0} (b : ℕ) (es : List (ℕ × A)) → ((k : ℕ) → k < length (numbers es) → b < get_or (numbers es) k 0) → AllHold (λ (later : ℕ × A). b < later.0) es
above-all b [] above = tt
above-all b (e ∷ es) above = (above zero (omega arith), above-all b es (λ k low. above (suc k) (omega arith)))

-- entries ascend where their numbers do, place by place
pub ascend-rise : {A : Type 0} (es : List (ℕ × A)) → Rise (numbers es) → Ascend es
ascend-rise [] up = tt
ascend-rise (e ∷ es) up = (above-all e.0 es (λ k low. up zero (suc k) (omega arith) (omega arith)), ascend-rise es (λ i j order low. up (suc i) (suc j) (omega arith) (omega arith)))

-- Something of each entry

with-each_by : {A B : Type 0} (f : ℕ → A → B) (t u : Bool) (n : ℕ) (x : A) (e : ℕ × A) (es rest : List (ℕ × A)) →
    each_by f (cond t (e ∷ rest) (cond u ((n, x) ∷ es) ((n, x) ∷ e ∷ es)))
    ≡ cond t ((e.0, f e.0 e.1) ∷ each_by f rest) (cond u ((n, f n x) ∷ each_by f es) ((n, f n x) ∷ (e.0, f e.0 e.1) ∷ each_by f es))
with-each_by f true u n x e es rest = refl
with-each_by f false true n x e es rest = refl
with-each_by f false false n x e es rest = refl

-- an entry more is one more of it
pub with-each : {A B : Type 0} (f : ℕ → A → B) (n : ℕ) (x : A) (es : List (ℕ × A)) → each_by f (with_entry n x es) ≡ with_entry n (f n x) (each_by f es)
with-each f n x [] = refl
with-each {A} {B} f n x (e ∷ es) =
    with-each_by f (nat_lt e.0 n) (nat_eq e.0 n) n x e es (with_entry n x es)
    ∙ (let later : List (ℕ × B) = each_by f es in
    ap (λ (l : List (ℕ × B)). cond (nat_lt e.0 n) ((e.0, f e.0 e.1) ∷ l) (cond (nat_eq e.0 n) ((n, f n x) ∷ later) ((n, f n x) ∷ (e.0, f e.0 e.1) ∷ later))) (with-each f n x es))

without-each_by : {A B : Type 0} (f : ℕ → A → B) (t : Bool) (e : ℕ × A) (rest : List (ℕ × A)) →
    each_by f (cond (not t) (e ∷ rest) rest) ≡ cond (not t) ((e.0, f e.0 e.1) ∷ each_by f rest) (each_by f rest)
without-each_by f true e rest = refl
without-each_by f false e rest = refl

-- and one less
pub without-each : {A B : Type 0} (f : ℕ → A → B) (n : ℕ) (es : List (ℕ × A)) → each_by f (without_entry n es) ≡ without_entry n (each_by f es)
without-each f n [] = refl
without-each {A} {B} f n (e ∷ es) =
    without-each_by f (nat_eq e.0 n) e (without_entry n es) ∙ ap (λ (l : List (ℕ × B)). cond (not (nat_eq e.0 n)) ((e.0, f e.0 e.1) ∷ l) l) (without-each f n es)

own-each_by : {A B : Type 0} (f : ℕ → A → B) (t : Bool) (n : ℕ) (e : ℕ × A) (found : Option A) → nat_eq e.0 n ≡ t →
    elim t [ true ↦ Some (f e.0 e.1) | false ↦ option_map (f n) found ] ≡ option_map (f n) (elim t [ true ↦ Some e.1 | false ↦ found ])
own-each_by f true n e found at = ap (λ m. Some (f m e.1)) (eqb-true e.0 n at)
own-each_by f false n e found at = refl

-- what is kept of it under a number
pub own-each : {A B : Type 0} (f : ℕ → A → B) (n : ℕ) (es : List (ℕ × A)) → own_of (each_by f es) n ≡ option_map (f n) (own_of es n)
own-each f n [] = refl
own-each {A} {B} f n (e ∷ es) =
    ap (λ (o : Option B). elim (nat_eq e.0 n) [ true ↦ Some (f e.0 e.1) | false ↦ o ]) (own-each f n es) ∙ own-each_by f (nat_eq e.0 n) n e (own_of es n) refl

above-each : {A B : Type 0} (f : ℕ → A → B) (b : ℕ) (es : List (ℕ × A)) → AllHold (λ (later : ℕ × A). b < later.0) es → AllHold (λ (later : ℕ × B). b < later.0) (each_by f es)
above-each f b [] all = tt
above-each f b (e ∷ es) all = (all.0, above-each f b es all.1)

-- it ascends as the entries do
pub ascend-each : {A B : Type 0} (f : ℕ → A → B) (es : List (ℕ × A)) → Ascend es → Ascend (each_by f es)
ascend-each f [] up = tt
ascend-each f (e ∷ es) up = (above-each f e.0 es up.0, ascend-each f es up.1)

-- the first of them from a number on
pub first-each : {A B : Type 0} (f : ℕ → A → B) (from : ℕ) (es : List (ℕ × A)) → first_from from (each_by f es) ≡ first_from from es
first-each f from [] = refl
first-each f from (e ∷ es) = ap (λ (o : Option ℕ). cond (nat_lt e.0 from) o (Some e.0)) (first-each f from es)
