-- Turns of a reader, until it gives None.
use Rattle.std.proofs.Common.{◌≡◌, ℕ, zero, suc, ◌<◌, Bool, true, false, List, [], ◌∷◌, ◌++◌, length, Option, Some, None, Ok, Err, refl, sym, ◌∙◌, ap, subst, arith, append_assoc, length-append}
use Rattle.std.proofs.Common.{ltb-true, lt-ltb, ◌⊎◌, inl, inr}
use Rattle.std.specs.Prelude.{nat_lt, if◌then◌else◌}
use Rattle.v_tree.specs.Tokens.{SourceToken}
use Rattle.v_readers.specs.Reading.{Why, Wrong, Deep, Reading, Reader, followed, wrong, deep, turned, turns, repeat}
use Rattle.v_readers.specs.Exact.{Language, Family, SameNext, SameNext-append, Found, Stops, Tells, Exact, behind}

pub append-nil : (ts : List SourceToken) → ts ++ [] ≡ ts
append-nil [] = refl
append-nil (t ∷ ts) = ap (λ e. t ∷ e) (append-nil ts)

module _ {S : Type 0} (turn : S → Reader (Option S)) where
  turns-next : (f g : S → Reader S) (s : S) (tokens : List SourceToken)
      → ((t : S) (rest : List SourceToken) → length rest < length tokens → f t rest ≡ g t rest)
      → (r : Reading (Option S)) → followed r (turned f s tokens) ≡ followed r (turned g s tokens)
  turns-next f g s tokens same (Ok x) = next x.0 x.1
    where
      again : (t : S) (rest : List SourceToken) (b : Bool) → nat_lt (length rest) (length tokens) ≡ b
          → ◌≡◌ {A = Reading S} (if b then f t rest else wrong rest) (if b then g t rest else wrong rest)
      again t rest true e = same t rest (ltb-true (length rest) (length tokens) e)
      again t rest false e = refl

      next : (o : Option S) (rest : List SourceToken) → turned f s tokens o rest ≡ turned g s tokens o rest
      next None rest = refl
      next (Some t) rest = again t rest (nat_lt (length rest) (length tokens)) refl
  turns-next f g s tokens same (Err stop) = refl

  turns-enough : (n m : ℕ) (s : S) (tokens : List SourceToken) → length tokens < n → length tokens < m → turns n turn s tokens ≡ turns m turn s tokens
  unfolding turns
  turns-enough zero m s tokens h g = absurd (let p : length tokens < 0 = h in omega arith)
  turns-enough (suc n) zero s tokens h g = absurd (let p : length tokens < 0 = g in omega arith)
  turns-enough (suc n) (suc m) s tokens h g =
      turns-next (turns n turn) (turns m turn) s tokens (λ t rest shorter. turns-enough n m t rest (omega arith) (omega arith)) (turn s tokens)

  pub repeat-turn : (s : S) (tokens : List SourceToken) → repeat turn s tokens ≡ followed (turn s tokens) (turned (repeat turn) s tokens)
  unfolding repeat turns
  repeat-turn s tokens =
      turns-next (turns (length tokens) turn) (repeat turn) s tokens
      (λ t rest shorter. turns-enough (length tokens) (suc (length rest)) t rest shorter (omega arith))
      (turn s tokens)

-- what a turn spells: more of what the turns before it spell
abbrev pub Turn : {S : Type 0} → Language S → S → List SourceToken → Language (Option S)
Turn N s front None back = back ≡ []
Turn N s front (Some t) back = N t (front ++ back) × (0 < length back)

abbrev pub TurnFits : {S : Type 0} → (S → Type 0) → Option S → Type 0
TurnFits G None = Unit {0}
TurnFits G (Some t) = G t

module _ {S : Type 0} (turn : ℕ → S → Reader (Option S)) (k : ℕ) (N : Language S) (G : S → Type 0) where
  turning : S → Family S
  turning s m = repeat (turn m) s

  shorter : (tokens front rest : List SourceToken) → tokens ≡ front ++ rest → 0 < length front → nat_lt (length rest) (length tokens) ≡ true
  shorter tokens front rest e h = lt-ltb (length rest) (length tokens) (omega (arith, ap length e, length-append front rest))

  -- a turn that goes on
  on : (m : ℕ) (s t : S) (tokens front rest : List SourceToken) → tokens ≡ front ++ rest → 0 < length front → turn m s tokens ≡ Ok (Some t, rest) → repeat (turn m) s tokens ≡ repeat (turn m) t rest
  on m s t tokens front rest e h r =
      repeat-turn (turn m) s tokens
      ∙ ap (λ w. followed w (turned (repeat (turn m)) s tokens)) r
      ∙ ap (λ b. if b then repeat (turn m) t rest else wrong rest) (shorter tokens front rest e h)

  -- a turn that stops, or is the last
  off : (m : ℕ) (s : S) (tokens : List SourceToken) (r : Reading (Option S)) → turn m s tokens ≡ r → repeat (turn m) s tokens ≡ followed r (turned (repeat (turn m)) s tokens)
  off m s tokens r e = repeat-turn (turn m) s tokens ∙ ap (λ w. followed w (turned (repeat (turn m)) s tokens)) e

  -- what the turns after a turn tell
  later : (s t : S) (front tokens rest : List SourceToken) (p : Found (λ m. turn m s) k (Turn N s front) (TurnFits G) tokens (Some t) rest) (r : Reading S)
      → Tells (turning t) k (behind (front ++ p.front) N) G rest r → Tells (turning s) k (behind front N) G tokens r
  unfolding turning
  later s t front tokens rest p (Ok y) q = record {
    front = p.front ++ q.front;
    whole = p.whole ∙ ap (λ e. p.front ++ e) q.whole ∙ sym (append_assoc p.front q.front y.1);
    spelled = subst (N y.0) (append_assoc front p.front q.front) q.spelled;
    fits = q.fits;
    again = λ m h more same.
        let next : SameNext rest (q.front ++ more) = subst (λ e. SameNext e (q.front ++ more)) (sym q.whole) (SameNext-append q.front _ more same) in
        ap (repeat (turn m) s) (append_assoc p.front q.front more)
        ∙ on m s t (p.front ++ (q.front ++ more)) p.front (q.front ++ more) refl p.spelled.1 (p.again m h (q.front ++ more) next)
        ∙ q.again m h more same;
  }
  later s t front tokens rest p (Err stop) q = stops stop.why stop.rest q
    where
      begun : {more : List SourceToken} → (more ≡ []) ⊎ ((y : S) × (ts : List SourceToken) × N y ((front ++ p.front) ++ (more ++ ts)) × G y) →
          (y : S) × (ts : List SourceToken) × N y (front ++ ((p.front ++ more) ++ ts)) × G y
      begun {more} (inl e) = (t, [], subst (λ f. N t (front ++ f)) (sym (append-nil (p.front ++ more) ∙ ap (λ f. p.front ++ f) e ∙ append-nil p.front)) p.spelled.0, p.fits)
      begun {more} (inr b) = (b.0, b.1, subst (N b.0) (append_assoc front p.front (more ++ b.1) ∙ ap (λ f. front ++ f) (sym (append_assoc p.front more b.1))) b.2, b.3)

      stops : (why : Why) (back : List SourceToken) → Stops (turning t) k (behind (front ++ p.front) N) G rest why back → Stops (turning s) k (behind front N) G tokens why back
      stops Wrong back q = record {
        front = p.front ++ q.front;
        whole = p.whole ∙ ap (λ e. p.front ++ e) q.whole ∙ sym (append_assoc p.front q.front back);
        value = q.value;
        tail = q.tail;
        spelled = subst (N q.value) (append_assoc front p.front (q.front ++ q.tail) ∙ ap (λ e. front ++ e) (sym (append_assoc p.front q.front q.tail))) q.spelled;
        fits = q.fits;
        again = λ m h more same.
            let next : SameNext rest (q.front ++ more) = subst (λ e. SameNext e (q.front ++ more)) (sym q.whole) (SameNext-append q.front _ more same) in
            ap (repeat (turn m) s) (append_assoc p.front q.front more)
            ∙ on m s t (p.front ++ (q.front ++ more)) p.front (q.front ++ more) refl p.spelled.1 (p.again m h (q.front ++ more) next)
            ∙ q.again m h more same;
      }
      stops Deep back q = record {
        front = p.front ++ q.front;
        token = q.token;
        after = q.after;
        next = q.next;
        whole = p.whole ∙ ap (λ e. p.front ++ e) q.whole ∙ sym (append_assoc p.front q.front back);
        value = q.value;
        tail = q.tail;
        spelled = subst (N q.value) (append_assoc front p.front (q.front ++ q.token ∷ q.tail) ∙ ap (λ e. front ++ e) (sym (append_assoc p.front q.front (q.token ∷ q.tail)))) q.spelled;
        before = inr (begun q.before);
        again = λ more.
            let next : SameNext rest (q.front ++ q.token ∷ more) =
            subst (λ e. SameNext e (q.front ++ q.token ∷ more)) (sym (q.whole ∙ ap (λ e. q.front ++ e) q.next)) (SameNext-append q.front (q.token ∷ q.after) (q.token ∷ more) refl) in
            ap (repeat (turn k) s) (append_assoc p.front q.front (q.token ∷ more))
            ∙ on k s t (p.front ++ (q.front ++ q.token ∷ more)) p.front (q.front ++ q.token ∷ more) refl p.spelled.1 (p.again k (omega arith) (q.front ++ q.token ∷ more) next)
            ∙ q.again more;
      }

  -- a turn that stops
  halts : (s : S) (spelled-s : List SourceToken) → N s spelled-s → G s → (tokens : List SourceToken) (why : Why) (rest : List SourceToken)
      → Stops (λ m. turn m s) k (Turn N s spelled-s) (TurnFits G) tokens why rest → Stops (turning s) k (behind spelled-s N) G tokens why rest
  unfolding turning
  halts s front here fits tokens Wrong rest p = record {
    front = p.front;
    whole = p.whole;
    value = (done p.value p.spelled p.fits).0;
    tail = p.tail;
    spelled = (done p.value p.spelled p.fits).1;
    fits = (done p.value p.spelled p.fits).2;
    again = λ m h more same. off m s (p.front ++ more) (wrong more) (p.again m h more same);
  }
    where
      done : (o : Option S) → Turn N s front o (p.front ++ p.tail) → TurnFits G o → (x : S) × N x (front ++ (p.front ++ p.tail)) × G x
      done None e f = (s, subst (λ e. N s (front ++ e)) (sym e) (subst (N s) (sym (append-nil front)) here), fits)
      done (Some t) e f = (t, e.0, f)
  halts s front here fits tokens Deep rest p = record {
    front = p.front;
    token = p.token;
    after = p.after;
    next = p.next;
    whole = p.whole;
    value = (done p.value p.spelled).0;
    tail = p.tail;
    spelled = (done p.value p.spelled).1;
    before = begins p.before;
    again = λ more. off k s (p.front ++ p.token ∷ more) (deep (p.token ∷ more)) (p.again more);
  }
    where
      begins : {more : List SourceToken} → (more ≡ []) ⊎ ((o : Option S) × (ts : List SourceToken) × Turn N s front o (more ++ ts) × TurnFits G o) →
          (more ≡ []) ⊎ ((x : S) × (ts : List SourceToken) × N x (front ++ (more ++ ts)) × G x)
      begins (inl e) = inl e
      begins {more} (inr b) = by b.0 b.1 b.2 b.3
        where
          by : (o : Option S) (ts : List SourceToken) → Turn N s front o (more ++ ts) → TurnFits G o → (more ≡ []) ⊎ ((x : S) × (ts : List SourceToken) × N x (front ++ (more ++ ts)) × G x)
          by None ts e f = inr (s, ts, subst (λ e. N s (front ++ e)) (sym e) (subst (N s) (sym (append-nil front)) here), fits)
          by (Some t) ts e f = inr (t, ts, e.0, f)

      done : (o : Option S) → Turn N s front o (p.front ++ p.token ∷ p.tail) → (x : S) × N x (front ++ (p.front ++ p.token ∷ p.tail))
      done None e = (s, subst (λ e. N s (front ++ e)) (sym e) (subst (N s) (sym (append-nil front)) here))
      done (Some t) e = (t, e.0)

  module _ (C : Type 0) (each : (s : S) (front : List SourceToken) → N s front → Exact (C × G s) (λ m. turn m s) k (Turn N s front) (TurnFits G)) where
    repeat_tells : (n : ℕ) (c : C) (s : S) (front : List SourceToken) → N s front → G s → (tokens : List SourceToken) → length tokens < n →
        Tells (turning s) k (behind front N) G tokens (repeat (turn k) s tokens)
    unfolding turning
    repeat_tells zero c s front here fits tokens h = absurd (let p : length tokens < 0 = h in omega arith)
    repeat_tells (suc n) c s front here fits tokens h =
        subst (Tells (turning s) k (behind front N) G tokens) (sym (repeat-turn (turn k) s tokens))
        (after (λ t rest front here fits shorter. repeat_tells n c t front here fits rest (omega arith)) (turn k s tokens) ((each s front here).tells (c, fits) tokens))
      where
        after : ((t : S) (rest front : List SourceToken) → N t front → G t → length rest < length tokens → Tells (turning t) k (behind front N) G rest (repeat (turn k) t rest))
            → (r : Reading (Option S)) → Tells (λ m. turn m s) k (Turn N s front) (TurnFits G) tokens r
            → Tells (turning s) k (behind front N) G tokens (followed r (turned (repeat (turn k)) s tokens))
        after next (Ok x) p = found x.0 x.1 p
          where
            found : (o : Option S) (rest : List SourceToken) → Found (λ m. turn m s) k (Turn N s front) (TurnFits G) tokens o rest
                → Tells (turning s) k (behind front N) G tokens (turned (repeat (turn k)) s tokens o rest)
            found None rest p = record {
              front = p.front;
              whole = p.whole;
              spelled = subst (λ e. N s (front ++ e)) (sym p.spelled) (subst (N s) (sym (append-nil front)) here);
              fits = fits;
              again = λ m h more same. off m s (p.front ++ more) (Ok (None, more)) (p.again m h more same);
            }
            found (Some t) rest p =
                let less = shorter tokens p.front rest p.whole p.spelled.1 in
                subst (λ b. Tells (turning s) k (behind front N) G tokens (if b then repeat (turn k) t rest else wrong rest)) (sym less)
                (later s t front tokens rest p (repeat (turn k) t rest)
                (next t rest (front ++ p.front) p.spelled.0 p.fits (ltb-true (length rest) (length tokens) less)))
        after next (Err stop) p = halts s front here fits tokens stop.why stop.rest p

    repeat_exact : (s : S) (front : List SourceToken) → N s front → Exact (C × G s) (turning s) k (behind front N) G
    unfolding turning
    repeat_exact s front here = record {
      any = (s, [], subst (N s) (sym (append-nil front)) here);
      some = λ c. (s, [], subst (N s) (sym (append-nil front)) here, c.1);
      tells = λ c tokens. repeat_tells (suc (length tokens)) c.0 s front here c.1 tokens (omega arith);
    }

pub exact-repeat : {C S : Type 0} (turn : ℕ → S → Reader (Option S)) {k : ℕ} {N : Language S} {G : S → Type 0}
    → ((s : S) (front : List SourceToken) → N s front → Exact (C × G s) (λ m. turn m s) k (Turn N s front) (TurnFits G))
    → (s : S) (front : List SourceToken) → N s front → Exact (C × G s) (λ m. repeat (turn m) s) k (behind front N) G
unfolding turning
exact-repeat {C} turn {k} {N} {G} each s front here = repeat_exact turn k N G C each s front here
