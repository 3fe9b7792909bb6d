-- Laws on entries by number at their places.
use Rattle.std.proofs.Common.{◌≡◌, ℕ, zero, suc, ◌<◌, ◌≤◌, Bool, true, false, not, cond, List, [], ◌∷◌, length, get_or, set, refl, ap, subst, ◌∙◌, arith}
use Rattle.std.specs.Prelude.{nat_eq, nat_lt, insert, remove, Some, None}
use Rattle.std.proofs.lemmas.Bool.{eq-eqb, ne_eqb, eqb-true, eqb-false, lt-ltb, le-ltb, ltb-true, ltb-false}
use Rattle.copy_laws.specs.Differences.{own_of}
use Rattle.copy_state.specs.Entries.{with_entry, without_entry, numbers, Rise, IsAt, GoesTo}

at_rest : (x : ℕ) (ns : List ℕ) (p n : ℕ) → IsAt (x ∷ ns) (suc p) n → IsAt ns p n
at_rest x ns p n had = record {
  within = let low : suc p < suc (length ns) = had.within in omega arith;
  at = had.at;
  before = λ k low. had.before (suc k) (omega arith);
  behind = λ k low within. had.behind (suc k) (omega arith) (omega arith);
}

goes_rest : (x : ℕ) (ns : List ℕ) (p n : ℕ) → GoesTo (x ∷ ns) (suc p) n → GoesTo ns p n
goes_rest x ns p n had = record {
  within = let low : suc p ≤ suc (length ns) = had.within in omega arith;
  before = λ k low. had.before (suc k) (omega arith);
  behind = λ k low within. had.behind (suc k) (omega arith) (omega arith);
}

goes_first : (x : ℕ) (ns : List ℕ) (n : ℕ) → ((k : ℕ) → k < length (x ∷ ns) → n < get_or (x ∷ ns) k 0) → GoesTo ns zero n
goes_first x ns n above = record {
  within = omega arith;
  before = λ k low. absurd (omega arith);
  behind = λ k low within. above (suc k) (omega arith);
}

-- what is kept under a number that stands there
pub own_of-at : {A : Type 0} (es : List (ℕ × A)) (p n : ℕ) (d : ℕ × A) → IsAt (numbers es) p n → own_of es n ≡ Some (get_or es p d).1
own_of-at [] p n d had = absurd (let low : p < 0 = had.within in omega arith)
own_of-at {A} (e ∷ es) zero n d had = ap (λ (b : Bool). elim b [ true ↦ Some e.1 | false ↦ own_of es n ]) (eq-eqb e.0 n had.at)
own_of-at {A} (e ∷ es) (suc p) n d had =
    ap (λ (b : Bool). elim b [ true ↦ Some e.1 | false ↦ own_of es n ]) (ne_eqb e.0 n (λ same. let less : e.0 < n = had.before zero (omega arith) in omega arith))
    ∙ own_of-at es p n d (at_rest e.0 (numbers es) p n had)

-- and under one that doesn't
pub own_of-none : {A : Type 0} (es : List (ℕ × A)) (p n : ℕ) → GoesTo (numbers es) p n → own_of es n ≡ None
own_of-none [] p n had = refl
own_of-none {A} (e ∷ es) zero n had =
    ap (λ (b : Bool). elim b [ true ↦ Some e.1 | false ↦ own_of es n ]) (ne_eqb e.0 n (λ same. let less : n < e.0 = had.behind zero (omega arith) (omega arith) in omega arith))
    ∙ own_of-none es zero n (goes_first e.0 (numbers es) n (λ k low. had.behind k (omega arith) low))
own_of-none {A} (e ∷ es) (suc p) n had =
    ap (λ (b : Bool). elim b [ true ↦ Some e.1 | false ↦ own_of es n ]) (ne_eqb e.0 n (λ same. let less : e.0 < n = had.before zero (omega arith) in omega arith))
    ∙ own_of-none es p n (goes_rest e.0 (numbers es) p n had)

-- an entry in place of the old one
pub with_entry-at : {A : Type 0} (es : List (ℕ × A)) (p n : ℕ) (x : A) → IsAt (numbers es) p n → with_entry n x es ≡ set es p (n, x)
with_entry-at [] p n x had = absurd (let low : p < 0 = had.within in omega arith)
with_entry-at {A} (e ∷ es) zero n x had =
    ap (λ b. cond b (e ∷ with_entry n x es) (cond (nat_eq e.0 n) ((n, x) ∷ es) ((n, x) ∷ e ∷ es))) (le-ltb e.0 n (let same : e.0 ≡ n = had.at in omega arith))
    ∙ ap (λ b. cond b ((n, x) ∷ es) ((n, x) ∷ e ∷ es)) (eq-eqb e.0 n had.at)
with_entry-at {A} (e ∷ es) (suc p) n x had =
    ap (λ b. cond b (e ∷ with_entry n x es) (cond (nat_eq e.0 n) ((n, x) ∷ es) ((n, x) ∷ e ∷ es))) (lt-ltb e.0 n (had.before zero (omega arith)))
    ∙ ap (λ l. e ∷ l) (with_entry-at es p n x (at_rest e.0 (numbers es) p n had))

-- an entry where there was none
pub with_entry-new : {A : Type 0} (es : List (ℕ × A)) (p n : ℕ) (x : A) → GoesTo (numbers es) p n → with_entry n x es ≡ insert es p (n, x)
with_entry-new [] zero n x had = refl
with_entry-new [] (suc p) n x had = absurd (let low : suc p ≤ 0 = had.within in omega arith)
with_entry-new {A} (e ∷ es) zero n x had =
    let less : n < e.0 = had.behind zero (omega arith) (omega arith) in
    ap (λ b. cond b (e ∷ with_entry n x es) (cond (nat_eq e.0 n) ((n, x) ∷ es) ((n, x) ∷ e ∷ es))) (le-ltb e.0 n (omega arith))
    ∙ ap (λ b. cond b ((n, x) ∷ es) ((n, x) ∷ e ∷ es)) (ne_eqb e.0 n (λ same. omega arith))
with_entry-new {A} (e ∷ es) (suc p) n x had =
    ap (λ b. cond b (e ∷ with_entry n x es) (cond (nat_eq e.0 n) ((n, x) ∷ es) ((n, x) ∷ e ∷ es))) (lt-ltb e.0 n (had.before zero (omega arith)))
    ∙ ap (λ l. e ∷ l) (with_entry-new es p n x (goes_rest e.0 (numbers es) p n had))

-- without an entry that isn't there
pub without_entry-none : {A : Type 0} (es : List (ℕ × A)) (p n : ℕ) → GoesTo (numbers es) p n → without_entry n es ≡ es
without_entry-none [] p n had = refl
without_entry-none {A} (e ∷ es) zero n had =
    ap (λ b. cond (not b) (e ∷ without_entry n es) (without_entry n es)) (ne_eqb e.0 n (λ same. let less : n < e.0 = had.behind zero (omega arith) (omega arith) in omega arith))
    ∙ ap (λ l. e ∷ l) (without_entry-none es zero n (goes_first e.0 (numbers es) n (λ k low. had.behind k (omega arith) low)))
without_entry-none {A} (e ∷ es) (suc p) n had =
    ap (λ b. cond (not b) (e ∷ without_entry n es) (without_entry n es)) (ne_eqb e.0 n (λ same. let less : e.0 < n = had.before zero (omega arith) in omega arith))
    ∙ ap (λ l. e ∷ l) (without_entry-none es p n (goes_rest e.0 (numbers es) p n had))

-- without one that is
pub without_entry-at : {A : Type 0} (es : List (ℕ × A)) (p n : ℕ) → IsAt (numbers es) p n → without_entry n es ≡ remove es p
without_entry-at [] p n had = absurd (let low : p < 0 = had.within in omega arith)
without_entry-at {A} (e ∷ es) zero n had =
    ap (λ b. cond (not b) (e ∷ without_entry n es) (without_entry n es)) (eq-eqb e.0 n had.at)
    ∙ without_entry-none es zero n (record { within = omega arith; before = λ k low. absurd (omega arith); behind = λ k low within. had.behind (suc k) (omega arith) (omega arith) })
without_entry-at {A} (e ∷ es) (suc p) n had =
    ap (λ b. cond (not b) (e ∷ without_entry n es) (without_entry n es)) (ne_eqb e.0 n (λ same. let less : e.0 < n = had.before zero (omega arith) in omega arith))
    ∙ ap (λ l. e ∷ l) (without_entry-at es p n (at_rest e.0 (numbers es) p n had))

-- Ascending

-- all of some numbers are greater than one
abbrev pub Above : ℕ → List ℕ → Type 0
Above b ns = (k : ℕ) → k < length ns → b < get_or ns k 0

above-cons : (b x : ℕ) (ns : List ℕ) → b < x → Above b ns → Above b (x ∷ ns)
above-cons b x ns low above zero within = low
above-cons b x ns low above (suc k) within = above k (omega arith)

above-less : (b c : ℕ) (ns : List ℕ) → b ≤ c → Above c ns → Above b ns
above-less b c ns low above k within = let higher : c < get_or ns k 0 = above k within in omega arith

rise-cons : (x : ℕ) (ns : List ℕ) → Above x ns → Rise ns → Rise (x ∷ ns)
rise-cons x ns above up zero zero order within = absurd (omega arith)
rise-cons x ns above up zero (suc j) order within = above j (omega arith)
rise-cons x ns above up (suc i) zero order within = absurd (omega arith)
rise-cons x ns above up (suc i) (suc j) order within = up i j (omega arith) (omega arith)

rise-rest : (x : ℕ) (ns : List ℕ) → Rise (x ∷ ns) → Rise ns
rise-rest x ns up i j order within = up (suc i) (suc j) (omega arith) (omega arith)

rise-first : (x : ℕ) (ns : List ℕ) → Rise (x ∷ ns) → Above x ns
rise-first x ns up k within = up zero (suc k) (omega arith) (omega arith)

above-with_by : {A : Type 0} (t u : Bool) (b n : ℕ) (x : A) (e : ℕ × A) (es rest : List (ℕ × A)) → b < e.0 → b < n → Above b (numbers es) → Above b (numbers rest) →
    Above b (numbers (cond t (e ∷ rest) (cond u ((n, x) ∷ es) ((n, x) ∷ e ∷ es))))
above-with_by true u b n x e es rest first own above more = above-cons b e.0 (numbers rest) first more
above-with_by false true b n x e es rest first own above more = above-cons b n (numbers es) own above
above-with_by false false b n x e es rest first own above more = above-cons b n (e.0 ∷ numbers es) own (above-cons b e.0 (numbers es) first above)

above-with : {A : Type 0} (b n : ℕ) (x : A) (es : List (ℕ × A)) → b < n → Above b (numbers es) → Above b (numbers (with_entry n x es))
above-with b n x [] own above = above-cons b n [] own above
above-with b n x (e ∷ es) own above =
    let rest : Above b (numbers es) = λ k within. above (suc k) (omega arith) in
    above-with_by (nat_lt e.0 n) (nat_eq e.0 n) b n x e es (with_entry n x es) (above zero (omega arith)) own rest (above-with b n x es own rest)

rise-with_by : {A : Type 0} (t u : Bool) (n : ℕ) (x : A) (e : ℕ × A) (es rest : List (ℕ × A)) → nat_lt e.0 n ≡ t → nat_eq e.0 n ≡ u → Rise (e.0 ∷ numbers es) →
    (e.0 < n → Above e.0 (numbers rest)) → Rise (numbers rest) →
    Rise (numbers (cond t (e ∷ rest) (cond u ((n, x) ∷ es) ((n, x) ∷ e ∷ es))))
rise-with_by true u n x e es rest less same up above more = rise-cons e.0 (numbers rest) (above (ltb-true e.0 n less)) more
rise-with_by false true n x e es rest less same up above more = rise-cons n (numbers es) (subst (λ m. Above m (numbers es)) (eqb-true e.0 n same) (rise-first e.0 (numbers es) up))
    (rise-rest e.0 (numbers es) up)
rise-with_by false false n x e es rest less same up above more =
    let not_less : n ≤ e.0 = ltb-false e.0 n less in
    let other : e.0 ≡ n → ⊥ = eqb-false e.0 n same in
    let greater : n < e.0 = omega arith in
    rise-cons n (e.0 ∷ numbers es) (above-cons n e.0 (numbers es) greater (above-less n e.0 (numbers es) not_less (rise-first e.0 (numbers es) up))) up

-- with an entry the numbers ascend still
pub rise-with : {A : Type 0} (n : ℕ) (x : A) (es : List (ℕ × A)) → Rise (numbers es) → Rise (numbers (with_entry n x es))
rise-with n x [] up = rise-cons n [] (λ k within. absurd (omega arith)) up
rise-with n x (e ∷ es) up =
    rise-with_by (nat_lt e.0 n) (nat_eq e.0 n) n x e es (with_entry n x es) refl refl up (λ less. above-with e.0 n x es less (rise-first e.0 (numbers es) up))
    (rise-with n x es (rise-rest e.0 (numbers es) up))

above-without_by : {A : Type 0} (t : Bool) (b : ℕ) (e : ℕ × A) (rest : List (ℕ × A)) → b < e.0 → Above b (numbers rest) → Above b (numbers (cond (not t) (e ∷ rest) rest))
above-without_by true b e rest first more = more
above-without_by false b e rest first more = above-cons b e.0 (numbers rest) first more

above-without : {A : Type 0} (b n : ℕ) (es : List (ℕ × A)) → Above b (numbers es) → Above b (numbers (without_entry n es))
above-without b n [] above = above
above-without b n (e ∷ es) above = above-without_by (nat_eq e.0 n) b e (without_entry n es) (above zero (omega arith)) (above-without b n es (λ k within. above (suc k) (omega arith)))

rise-without_by : {A : Type 0} (t : Bool) (e : ℕ × A) (rest : List (ℕ × A)) → Above e.0 (numbers rest) → Rise (numbers rest) → Rise (numbers (cond (not t) (e ∷ rest) rest))
rise-without_by true e rest above more = more
rise-without_by false e rest above more = rise-cons e.0 (numbers rest) above more

-- and without one
pub rise-without : {A : Type 0} (n : ℕ) (es : List (ℕ × A)) → Rise (numbers es) → Rise (numbers (without_entry n es))
rise-without n [] up = up
rise-without n (e ∷ es) up = rise-without_by (nat_eq e.0 n) e (without_entry n es) (above-without e.0 n es (rise-first e.0 (numbers es) up)) (rise-without n es (rise-rest e.0 (numbers es) up))
