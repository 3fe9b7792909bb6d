-- What a reader finds, and where it stops, against what is spelled.
use Rattle.std.proofs.Common.{◌≡◌, ℕ, zero, suc, ◌≤◌, List, [], ◌∷◌, ◌++◌, Ok, Err, refl, sym, ◌∙◌, ap, subst, arith, append_assoc, ◌⊎◌, inl, inr}
use Rattle.std.proofs.lemmas.List.{append-nil}
use Rattle.v_tree.specs.Tokens.{SourceToken}
use Rattle.v_readers.specs.Reading.{Why, Wrong, Deep, Reading, Reader, followed, ◌>>=◌, give, wrong, deep}

abbrev pub Language : Type 0 → Type 1
Language A = A → List SourceToken → Type 0

-- a reader for each number of levels
abbrev pub Family : Type 0 → Type 0
Family A = ℕ → Reader A

-- both lists begin with one token, or both are empty
abbrev pub SameNext : List SourceToken → List SourceToken → Type 0
SameNext [] [] = Unit {0}
SameNext [] (u ∷ us) = ⊥
SameNext (t ∷ ts) [] = ⊥
SameNext (t ∷ ts) (u ∷ us) = t ≡ u

pub SameNext-append : (front rest more : List SourceToken) → SameNext rest more → SameNext (front ++ rest) (front ++ more)
SameNext-append [] rest more h = h
SameNext-append (t ∷ ts) rest more h = refl

-- what was read is spelled by a value, whatever follows the next token, and however many more levels there are
pub record Found {A : Type 0} (P : Family A) (k : ℕ) (L : Language A) (F : A → Type 0) (tokens : List SourceToken) (x : A) (rest : List SourceToken) : Type 0 where
  pub front : List SourceToken
  pub whole : tokens ≡ front ++ rest
  pub spelled : L x front
  pub fits : F x
  pub again : (m : ℕ) → k ≤ m → (more : List SourceToken) → SameNext rest more → P m (front ++ more) ≡ Ok (x, more)

-- what was read begins a spelling, and reading stops there whatever follows the next token
pub record Stuck {A : Type 0} (P : Family A) (k : ℕ) (L : Language A) (F : A → Type 0) (tokens rest : List SourceToken) : Type 0 where
  pub front : List SourceToken
  pub whole : tokens ≡ front ++ rest
  pub value : A
  pub tail : List SourceToken
  pub spelled : L value (front ++ tail)
  pub fits : F value
  pub again : (m : ℕ) → k ≤ m → (more : List SourceToken) → SameNext rest more → P m (front ++ more) ≡ wrong more

-- what was read and the next token begin a spelling, and reading stops there whatever follows
pub record Deepens {A : Type 0} (P : Family A) (k : ℕ) (L : Language A) (F : A → Type 0) (tokens rest : List SourceToken) : Type 0 where
  pub front : List SourceToken
  pub token : SourceToken
  pub after : List SourceToken
  pub next : rest ≡ token ∷ after
  pub whole : tokens ≡ front ++ rest
  pub value : A
  pub tail : List SourceToken
  pub spelled : L value (front ++ token ∷ tail)
  -- what was read begins a spelling that fits
  pub before : (front ≡ []) ⊎ ((x : A) × (ts : List SourceToken) × L x (front ++ ts) × F x)
  pub again : (more : List SourceToken) → P k (front ++ token ∷ more) ≡ deep (token ∷ more)

abbrev pub Stops : {A : Type 0} → Family A → ℕ → Language A → (A → Type 0) → List SourceToken → Why → List SourceToken → Type 0
Stops P k L F tokens Wrong rest = Stuck P k L F tokens rest
Stops P k L F tokens Deep rest = Deepens P k L F tokens rest

abbrev pub Tells : {A : Type 0} → Family A → ℕ → Language A → (A → Type 0) → List SourceToken → Reading A → Type 0
Tells P k L F tokens (Ok x) = Found P k L F tokens x.0 x.1
Tells P k L F tokens (Err stop) = Stops P k L F tokens stop.why stop.rest

-- a reader of a language: all that it tells of any tokens is so, under the condition C
pub record Exact (C : Type 0) {A : Type 0} (P : Family A) (k : ℕ) (L : Language A) (F : A → Type 0) : Type 0 where
  pub any : (x : A) × (ts : List SourceToken) × L x ts
  pub some : C → (x : A) × (ts : List SourceToken) × L x ts × F x
  pub tells : C → (tokens : List SourceToken) → Tells P k L F tokens (P k tokens)

-- what is left of a language behind a front
abbrev pub behind : {A : Type 0} → List SourceToken → Language A → Language A
behind front N y back = N y (front ++ back)

module _ {A B : Type 0} (P : Family A) (Q : ℕ → A → Reader B) (k : ℕ) (L : Language A) (F : A → Type 0) (N : Language B) (G : B → Type 0) where
  both : Family B
  both m = P m >>= Q m

  -- what the second reader tells
  second_tells : (tokens : List SourceToken) (x : A) (rest : List SourceToken) (p : Found P k L F tokens x rest) (some : (y : B) × (ts : List SourceToken) × N y (p.front ++ ts) × G y) (r : Reading B)
      → Tells (λ m. Q m x) k (behind p.front N) G rest r → Tells (λ m. P m >>= Q m) k N G tokens r
  second_tells tokens x rest p some (Ok y) q = record {
    front = p.front ++ q.front;
    whole = p.whole ∙ ap (λ e. p.front ++ e) q.whole ∙ sym (append_assoc p.front q.front y.1);
    spelled = q.spelled;
    fits = q.fits;
    again = λ m h more s.
        let same : SameNext rest (q.front ++ more) = subst (λ e. SameNext e (q.front ++ more)) (sym q.whole) (SameNext-append q.front _ more s) in
        ap (λ e. followed (P m e) (Q m)) (append_assoc p.front q.front more)
        ∙ ap (λ e. followed e (Q m)) (p.again m h (q.front ++ more) same)
        ∙ q.again m h more s;
  }
  second_tells tokens x rest p some (Err stop) q = second_stops stop.why stop.rest q
    where
      begun : {front : List SourceToken} → (front ≡ []) ⊎ ((y : B) × (ts : List SourceToken) × N y (p.front ++ (front ++ ts)) × G y) →
          (y : B) × (ts : List SourceToken) × N y ((p.front ++ front) ++ ts) × G y
      begun {front} (inl e) = (some.0, some.1, subst (λ f. N some.0 (f ++ some.1)) (sym (ap (λ f. p.front ++ f) e ∙ append-nil p.front)) some.2, some.3)
      begun {front} (inr b) = (b.0, b.1, subst (N b.0) (sym (append_assoc p.front front b.1)) b.2, b.3)

      second_stops : (why : Why) (back : List SourceToken) → Stops (λ m. Q m x) k (behind p.front N) G rest why back → Stops (λ m. P m >>= Q m) k N G tokens why back
      second_stops Wrong back q = record {
        front = p.front ++ q.front;
        whole = p.whole ∙ ap (λ e. p.front ++ e) q.whole ∙ sym (append_assoc p.front q.front back);
        value = q.value;
        tail = q.tail;
        spelled = subst (λ e. N q.value e) (sym (append_assoc p.front q.front q.tail)) q.spelled;
        fits = q.fits;
        again = λ m h more s.
            let same : SameNext rest (q.front ++ more) = subst (λ e. SameNext e (q.front ++ more)) (sym q.whole) (SameNext-append q.front _ more s) in
            ap (λ e. followed (P m e) (Q m)) (append_assoc p.front q.front more)
            ∙ ap (λ e. followed e (Q m)) (p.again m h (q.front ++ more) same)
            ∙ q.again m h more s;
      }
      second_stops Deep back q = record {
        front = p.front ++ q.front;
        token = q.token;
        after = q.after;
        next = q.next;
        whole = p.whole ∙ ap (λ e. p.front ++ e) q.whole ∙ sym (append_assoc p.front q.front back);
        value = q.value;
        tail = q.tail;
        spelled = subst (λ e. N q.value e) (sym (append_assoc p.front q.front (q.token ∷ q.tail))) q.spelled;
        before = inr (begun q.before);
        again = λ more.
            let same : SameNext rest (q.front ++ q.token ∷ more) =
            subst (λ e. SameNext e (q.front ++ q.token ∷ more)) (sym (q.whole ∙ ap (λ e. q.front ++ e) q.next)) (SameNext-append q.front (q.token ∷ q.after) (q.token ∷ more) refl) in
            ap (λ e. followed (P k e) (Q k)) (append_assoc p.front q.front (q.token ∷ more))
            ∙ ap (λ e. followed e (Q k)) (p.again k (omega arith) (q.front ++ q.token ∷ more) same)
            ∙ q.again more;
      }

  module _ (C : Type 0) (second : (x : A) (front : List SourceToken) → L x front → Exact (C × F x) (λ m. Q m x) k (behind front N) G) where
    first_stops : (c : C) (tokens : List SourceToken) (why : Why) (rest : List SourceToken) → Stops P k L F tokens why rest → Stops (λ m. P m >>= Q m) k N G tokens why rest
    first_stops c tokens Wrong rest p =
        let more = (second p.value (p.front ++ p.tail) p.spelled).some (c, p.fits) in record {
          front = p.front;
          whole = p.whole;
          value = more.0;
          tail = p.tail ++ more.1;
          spelled = subst (λ e. N more.0 e) (append_assoc p.front p.tail more.1) more.2;
          fits = more.3;
          again = λ m h more s. ap (λ e. followed e (Q m)) (p.again m h more s);
        }
    first_stops c tokens Deep rest p =
        let more = (second p.value (p.front ++ p.token ∷ p.tail) p.spelled).any in record {
          front = p.front;
          token = p.token;
          after = p.after;
          next = p.next;
          whole = p.whole;
          value = more.0;
          tail = p.tail ++ more.1;
          spelled = subst (λ e. N more.0 e) (append_assoc p.front (p.token ∷ p.tail) more.1) more.2;
          before = begins p.before;
          again = λ more. ap (λ e. followed e (Q k)) (p.again more);
        }
      where
        begins : {front : List SourceToken} → (front ≡ []) ⊎ ((x : A) × (ts : List SourceToken) × L x (front ++ ts) × F x) →
            (front ≡ []) ⊎ ((y : B) × (ts : List SourceToken) × N y (front ++ ts) × G y)
        begins {front} (inl e) = inl e
        begins {front} (inr b) =
            let more = (second b.0 (front ++ b.1) b.2).some (c, b.3) in
            inr (more.0, b.1 ++ more.1, subst (N more.0) (append_assoc front b.1 more.1) more.2, more.3)

    pub both_tell : (c : C) (tokens : List SourceToken) (r : Reading A) → Tells P k L F tokens r → Tells (λ m. P m >>= Q m) k N G tokens (followed r (Q k))
    both_tell c tokens (Ok x) p = second_tells tokens x.0 x.1 p ((second x.0 p.front p.spelled).some (c, p.fits)) (Q k x.0 x.1) ((second x.0 p.front p.spelled).tells (c, p.fits) x.1)
    both_tell c tokens (Err stop) p = first_stops c tokens stop.why stop.rest p

pub exact-bind : {C A B : Type 0} {P : Family A} {Q : ℕ → A → Reader B} {k : ℕ} {L : Language A} {F : A → Type 0} {N : Language B} {G : B → Type 0}
    → Exact C P k L F
    → ((x : A) (front : List SourceToken) → L x front → Exact (C × F x) (λ m. Q m x) k (behind front N) G)
    → Exact C (λ m. P m >>= Q m) k N G
exact-bind {C} {A} {B} {P} {Q} {k} {L} {F} {N} {G} first second = record {
  any =
      let x = first.any in
      let y = (second x.0 x.1 x.2).any in
      (y.0, x.1 ++ y.1, y.2);
  some = λ c.
      let x = first.some c in
      let y = (second x.0 x.1 x.2).some (c, x.3) in
      (y.0, x.1 ++ y.1, y.2, y.3);
  tells = λ c tokens. both_tell P Q k L F N G C second c tokens (P k tokens) (first.tells c tokens);
}

-- under a stronger condition
pub exact-under : {C D A : Type 0} {P : Family A} {k : ℕ} {L : Language A} {F : A → Type 0} → (C → D) → Exact D P k L F → Exact C P k L F
exact-under so exact = record { any = exact.any; some = λ c. exact.some (so c); tells = λ c tokens. exact.tells (so c) tokens }

pub exact-give : {C A : Type 0} {k : ℕ} {L : Language A} {F : A → Type 0} (x : A) → L x [] → (C → F x) → Exact C (λ m. give x) k L F
exact-give {C} {A} {k} {L} {F} x spelled fits = record {
  any = (x, [], spelled);
  some = λ c. (x, [], spelled, fits c);
  tells = λ c tokens. record { front = []; whole = refl; spelled = spelled; fits = fits c; again = λ m h more s. refl };
}

-- a language with more in it
pub exact-weaken : {C A : Type 0} {P : Family A} {k : ℕ} {L M : Language A} {F : A → Type 0} → ((x : A) (ts : List SourceToken) → L x ts → M x ts) → Exact C P k L F → Exact C P k M F
exact-weaken {C} {A} {P} {k} {L} {M} {F} so exact = record {
  any = (exact.any.0, exact.any.1, so exact.any.0 exact.any.1 exact.any.2);
  some = λ c. let x = exact.some c in (x.0, x.1, so x.0 x.1 x.2, x.3);
  tells = λ c tokens. told tokens (P k tokens) (exact.tells c tokens);
}
  where
    weaker : {front : List SourceToken} → (front ≡ []) ⊎ ((x : A) × (ts : List SourceToken) × L x (front ++ ts) × F x) → (front ≡ []) ⊎ ((x : A) × (ts : List SourceToken) × M x (front ++ ts) × F x)
    weaker (inl e) = inl e
    weaker {front} (inr b) = inr (b.0, b.1, so b.0 (front ++ b.1) b.2, b.3)

    stopped : (tokens : List SourceToken) (why : Why) (rest : List SourceToken) → Stops P k L F tokens why rest → Stops P k M F tokens why rest
    stopped tokens Wrong rest p = record { front = p.front; whole = p.whole; value = p.value; tail = p.tail; spelled = so p.value (p.front ++ p.tail) p.spelled; fits = p.fits; again = p.again }
    stopped tokens Deep rest p = record {
      front = p.front;
      token = p.token;
      after = p.after;
      next = p.next;
      whole = p.whole;
      value = p.value;
      tail = p.tail;
      spelled = so p.value (p.front ++ p.token ∷ p.tail) p.spelled;
      before = weaker p.before;
      again = p.again;
    }

    told : (tokens : List SourceToken) (r : Reading A) → Tells P k L F tokens r → Tells P k M F tokens r
    told tokens (Ok x) p = record { front = p.front; whole = p.whole; spelled = so x.0 p.front p.spelled; fits = p.fits; again = p.again }
    told tokens (Err stop) p = stopped tokens stop.why stop.rest p

-- the readers that are given one level more
pub exact-shift : {C D A : Type 0} {P : Family A} {k : ℕ} {L : Language A} {F : A → Type 0} (R : Family A) (G : A → Type 0)
    → ((m : ℕ) (tokens : List SourceToken) → R (suc m) tokens ≡ P m tokens) → ((x : A) → F x → G x) → (D → C) → Exact C P k L F → Exact D R (suc k) L G
exact-shift {C} {D} {A} {P} {k} {L} {F} R G same so under exact = record {
  any = exact.any;
  some = λ d. let x = exact.some (under d) in (x.0, x.1, x.2, so x.0 x.3);
  tells = λ d tokens. subst (Tells R (suc k) L G tokens) (sym (same k tokens)) (told tokens (P k tokens) (exact.tells (under d) tokens));
}
  where
    later : (x : Reading A) (more front : List SourceToken) → ((m : ℕ) → k ≤ m → P m (front ++ more) ≡ x) → (m : ℕ) → suc k ≤ m → R m (front ++ more) ≡ x
    later x more front h zero le = absurd (let p : suc k ≤ 0 = le in omega arith)
    later x more front h (suc m) le = same m (front ++ more) ∙ h m (omega arith)

    fitting : {front : List SourceToken} → (front ≡ []) ⊎ ((x : A) × (ts : List SourceToken) × L x (front ++ ts) × F x) → (front ≡ []) ⊎ ((x : A) × (ts : List SourceToken) × L x (front ++ ts) × G x)
    fitting (inl e) = inl e
    fitting (inr b) = inr (b.0, b.1, b.2, so b.0 b.3)

    stopped : (tokens : List SourceToken) (why : Why) (rest : List SourceToken) → Stops P k L F tokens why rest → Stops R (suc k) L G tokens why rest
    stopped tokens Wrong rest p = record {
      front = p.front;
      whole = p.whole;
      value = p.value;
      tail = p.tail;
      spelled = p.spelled;
      fits = so p.value p.fits;
      again = λ m h more s. later (wrong more) more p.front (λ n g. p.again n g more s) m h;
    }
    stopped tokens Deep rest p = record {
      front = p.front;
      token = p.token;
      after = p.after;
      next = p.next;
      whole = p.whole;
      value = p.value;
      tail = p.tail;
      spelled = p.spelled;
      before = fitting p.before;
      again = λ more. same k (p.front ++ p.token ∷ more) ∙ p.again more;
    }

    told : (tokens : List SourceToken) (r : Reading A) → Tells P k L F tokens r → Tells R (suc k) L G tokens r
    told tokens (Ok x) p = record {
      front = p.front;
      whole = p.whole;
      spelled = p.spelled;
      fits = so x.0 p.fits;
      again = λ m h more s. later (Ok (x.0, more)) more p.front (λ n g. p.again n g more s) m h;
    }
    told tokens (Err stop) p = stopped tokens stop.why stop.rest p
