-- Readers of one token, and readers that go on by the class of the next token.
use Rattle.std.proofs.Common.{◌≡◌, ℕ, ◌<◌, Bool, true, false, List, [], ◌∷◌, ◌++◌, Option, Some, None, Ok, Err, refl, sym, ◌∙◌, ap, subst, arith, ltb-true, lt-ltb, inl}
use Rattle.std.specs.Prelude.{nat_lt, if◌then◌else◌}
use Rattle.vf_base.specs.Base.{SourcePlace}
use Rattle.four_value.specs.Values.{LogicValue}
use Rattle.v_tree.specs.declared.token.NumberForm.{NumberForm}
use Rattle.v_tree.specs.declared.token.TokenKind.{TokenKind}
use Rattle.v_tree.specs.declared.token.TokenKind.TheVariants as kinds
use Rattle.v_tree.specs.Tokens.{SourceToken}
use Rattle.v_tree.specs.Trees.{Identifier}
use Rattle.v_readers.specs.declared.class.Class.{Class}
use Rattle.v_readers.specs.declared.class.Class.TheVariants as classes
use Rattle.v_readers.specs.Classes.{class_of, kind_of, is_fixed, same_class, token_at, token_of, name_token, number_token, IsName}
use Rattle.v_readers.specs.ClassLaws.{same_class-true, class_of-kind_of, kind_of-class_of, name-kind, number-kind}
use Rattle.v_readers.specs.Reading.{Why, Wrong, Deep, Reading, Reader, followed, ◌>>=◌, give, wrong, deep, place_of, next_class, by_class, pass, expect, step, down, ready, name_in, name, number_in}
use Rattle.v_readers.specs.Reading.{number, end}
use Rattle.v_readers.specs.Exact.{Language, Family, SameNext, Stops, Tells, Exact, behind, both_tell, exact-bind, exact-under, exact-give}

-- Languages of one token

-- a token of this class
abbrev pub IsOf : Class → Language SourceToken
IsOf class token ts = (class_of token.kind ≡ class) × (ts ≡ token ∷ [])

-- the token of a mark or a word of the grammar
abbrev pub IsToken : Class → Language SourcePlace
IsToken class place ts = ts ≡ token_of class place ∷ []

-- this name
abbrev pub SpellsName : Language (Identifier × SourcePlace)
SpellsName x ts = IsName x.0 × (ts ≡ name_token x.0 x.1 ∷ [])

-- this number
abbrev pub SpellsNumber : Language ((LogicValue × NumberForm) × SourcePlace)
SpellsNumber x ts = ts ≡ number_token x.0.0 x.0.1 x.1 ∷ []

abbrev pub nowhere : SourcePlace
nowhere = record { line = 0; column = 0 }

-- Readers of one token

pub exact-pass : {C : Type 0} {k : ℕ} (class : Class) → Exact C (λ n. pass class) k (IsOf class) (λ token. Unit {0})
exact-pass {C} {k} class = record {
  any = (token_of class nowhere, token_of class nowhere ∷ [], (class_of-kind_of class, refl));
  some = λ c. (token_of class nowhere, token_of class nowhere ∷ [], (class_of-kind_of class, refl), tt);
  tells = λ c tokens. told tokens;
}
  where
    at : (token : SourceToken) (rest : List SourceToken) (b : Bool) → same_class class (class_of token.kind) ≡ b
        → Tells (λ n. pass class) k (IsOf class) (λ token. Unit {0}) (token ∷ rest) (if b then give token rest else wrong (token ∷ rest))
    at token rest true h = record {
      front = token ∷ [];
      whole = refl;
      spelled = (sym (same_class-true class (class_of token.kind) h), refl);
      fits = tt;
      again = λ n le more s. ap (λ b. if b then give token more else wrong (token ∷ more)) h;
    }
    at token rest false h = record {
      front = [];
      whole = refl;
      value = token_of class nowhere;
      tail = token_of class nowhere ∷ [];
      spelled = (class_of-kind_of class, refl);
      fits = tt;
      again = λ n le more s. not_there more s;
    }
      where
        not_there : (more : List SourceToken) → SameNext (token ∷ rest) more → pass class more ≡ wrong more
        not_there [] s = absurd s
        not_there (u ∷ us) s = ap (λ b. if b then give u us else wrong (u ∷ us)) (ap (λ (t : SourceToken). same_class class (class_of t.kind)) (sym s) ∙ h)

    told : (tokens : List SourceToken) → Tells (λ n. pass class) k (IsOf class) (λ token. Unit {0}) tokens (pass class tokens)
    told [] = record {
      front = [];
      whole = refl;
      value = token_of class nowhere;
      tail = token_of class nowhere ∷ [];
      spelled = (class_of-kind_of class, refl);
      fits = tt;
      again = λ n le more s. nothing more s;
    }
      where
        nothing : (more : List SourceToken) → SameNext [] more → pass class more ≡ wrong more
        nothing [] s = refl
        nothing (u ∷ us) s = absurd s
    told (token ∷ rest) = at token rest (same_class class (class_of token.kind)) refl

-- a token of a class with one kind is the token of the class
pub is-fixed-token : (class : Class) → is_fixed class ≡ true → (token : SourceToken) → class_of token.kind ≡ class → token ≡ token_of class (place_of token)
is-fixed-token class fixed token e =
    ap (λ (kind : TokenKind). token_at kind (place_of token)) (kind_of-class_of token.kind (ap is_fixed e ∙ fixed) ∙ ap kind_of e)

pub exact-expect : {C : Type 0} {k : ℕ} (class : Class) → is_fixed class ≡ true → Exact C (λ n. expect class) k (IsToken class) (λ place. Unit {0})
exact-expect class fixed = exact-bind (exact-pass class) (λ token front spelled.
    exact-give (place_of token) (ap (λ f. f ++ []) spelled.1 ∙ ap (λ t. t ∷ []) (is-fixed-token class fixed token spelled.0)) (λ c. tt))

-- behind a mark or a word of the grammar, which has to stand next
pub exact-after : {C B : Type 0} {Q : ℕ → SourcePlace → Reader B} {k : ℕ} {N : Language B} {G : B → Type 0} (class : Class) → is_fixed class ≡ true
    → ((place : SourcePlace) → Exact C (λ n. Q n place) k (behind (token_of class place ∷ []) N) G)
    → Exact C (λ n. expect class >>= Q n) k N G
exact-after {C} {B} {Q} {k} {N} {G} class fixed next = exact-bind (exact-expect class fixed)
    (λ place front spelled. subst (λ f. Exact (C × Unit {0}) (λ n. Q n place) k (behind f N) G) (sym spelled) (exact-under (λ c. c.0) (next place)))

pub exact-name : {C : Type 0} {k : ℕ} → Exact C (λ n. name) k SpellsName (λ x. Unit {0})
exact-name {C} {k} = exact-bind (exact-pass classes.Name) (λ token front spelled.
    exact-give (name_in token.kind, place_of token) (named token front spelled) (λ c. tt))
  where
    named : (token : SourceToken) (front : List SourceToken) → IsOf classes.Name token front → SpellsName (name_in token.kind, place_of token) (front ++ [])
    named token front spelled =
        let is : token.kind ≡ kinds.Word (name_in token.kind) = name-kind token.kind spelled.0 in
        (sym (ap class_of is) ∙ spelled.0, ap (λ f. f ++ []) spelled.1 ∙ ap (λ (kind : TokenKind). token_at kind (place_of token) ∷ []) is)

pub exact-number : {C : Type 0} {k : ℕ} → Exact C (λ n. number) k SpellsNumber (λ x. Unit {0})
exact-number {C} {k} = exact-bind (exact-pass classes.Number) (λ token front spelled.
    exact-give (number_in token.kind, place_of token)
    (ap (λ f. f ++ []) spelled.1 ∙ ap (λ (kind : TokenKind). token_at kind (place_of token) ∷ []) (number-kind token.kind spelled.0))
    (λ c. tt))

pub exact-end : {C : Type 0} {k : ℕ} → Exact C (λ m. end) k (λ (x : Unit {0}) ts. ts ≡ []) (λ x. Unit {0})
exact-end {C} {k} = record {
  any = (tt, [], refl);
  some = λ c. (tt, [], refl, tt);
  tells = λ c tokens. told tokens;
}
  where
    told : (tokens : List SourceToken) → Tells (λ m. end) k (λ (x : Unit {0}) ts. ts ≡ []) (λ x. Unit {0}) tokens (end tokens)
    told [] = record { front = []; whole = refl; spelled = refl; fits = tt; again = λ m h more s. nothing more s }
      where
        nothing : (more : List SourceToken) → SameNext [] more → end more ≡ Ok (tt {0}, more)
        nothing [] s = refl
        nothing (u ∷ us) s = absurd s
    told (token ∷ rest) = record { front = []; whole = refl; value = tt; tail = []; spelled = refl; fits = tt; again = λ m h more s. something more s }
      where
        something : (more : List SourceToken) → SameNext (token ∷ rest) more → end more ≡ wrong more
        something [] s = absurd s
        something (u ∷ us) s = refl

-- Branches

-- what a value spells anyway
abbrev pub Some-of : (C : Type 0) {A : Type 0} → Language A → (A → Type 0) → Type 0
Some-of C {A} L F = ((x : A) × (ts : List SourceToken) × L x ts) × (C → (x : A) × (ts : List SourceToken) × L x ts × F x)

-- what a reader tells of tokens that begin with this class
pub record Branch (C : Type 0) {A : Type 0} (P : Family A) (k : ℕ) (L : Language A) (F : A → Type 0) (class : Option Class) : Type 0 where
  pub tells : C → (tokens : List SourceToken) → next_class tokens ≡ class → Tells P k L F tokens (P k tokens)

pub branch : {C A : Type 0} {P : Family A} {k : ℕ} {L : Language A} {F : A → Type 0} {class : Option Class} → Exact C P k L F → Branch C P k L F class
branch exact = record { tells = λ c tokens e. exact.tells c tokens }

pub branch-wrong : {C A : Type 0} {k : ℕ} {L : Language A} {F : A → Type 0} {class : Option Class} → Some-of C L F → Branch C (λ m. wrong) k L F class
branch-wrong some = record {
  tells = λ c tokens e.
      let x = some.1 c in
      record { front = []; whole = refl; value = x.0; tail = x.1; spelled = x.2; fits = x.3; again = λ m h more s. refl };
}

pub exact-by_class : {C A : Type 0} (choice : ℕ → Option Class → Reader A) {k : ℕ} {L : Language A} {F : A → Type 0} → Some-of C L F
    → ((class : Option Class) → Branch C (λ m. choice m class) k L F class)
    → Exact C (λ m. by_class (choice m)) k L F
exact-by_class {C} {A} choice {k} {L} {F} some each = record {
  any = some.0;
  some = some.1;
  tells = λ c tokens. by_tell tokens (choice k (next_class tokens) tokens) ((each (next_class tokens)).tells c tokens refl);
}
  where
    next-same : (front rest more : List SourceToken) → SameNext rest more → next_class (front ++ more) ≡ next_class (front ++ rest)
    next-same [] [] [] h = refl
    next-same [] [] (u ∷ us) h = absurd h
    next-same [] (t ∷ ts) [] h = absurd h
    next-same [] (t ∷ ts) (u ∷ us) h = ap (λ (t : SourceToken). Some (class_of t.kind)) (sym h)
    next-same (f ∷ fs) rest more h = refl

    by_stop : (tokens : List SourceToken) (why : Why) (rest : List SourceToken) → Stops (λ m. choice m (next_class tokens)) k L F tokens why rest →
        Stops (λ m. by_class (choice m)) k L F tokens why rest
    by_stop tokens Wrong rest p = record {
      front = p.front;
      whole = p.whole;
      value = p.value;
      tail = p.tail;
      spelled = p.spelled;
      fits = p.fits;
      again = λ m h more s. ap (λ e. choice m e (p.front ++ more)) (next-same p.front rest more s ∙ ap next_class (sym p.whole)) ∙ p.again m h more s;
    }
    by_stop tokens Deep rest p = record {
      front = p.front;
      token = p.token;
      after = p.after;
      next = p.next;
      whole = p.whole;
      value = p.value;
      tail = p.tail;
      spelled = p.spelled;
      before = p.before;
      again = λ more. ap (λ e. choice k e (p.front ++ p.token ∷ more))
          (next-same p.front (p.token ∷ p.after) (p.token ∷ more) refl ∙ ap (λ e. next_class (p.front ++ e)) (sym p.next) ∙ ap next_class (sym p.whole)) ∙ p.again more;
    }

    by_tell : (tokens : List SourceToken) (r : Reading A) → Tells (λ m. choice m (next_class tokens)) k L F tokens r → Tells (λ m. by_class (choice m)) k L F tokens r
    by_tell tokens (Ok x) p = record {
      front = p.front;
      whole = p.whole;
      spelled = p.spelled;
      fits = p.fits;
      again = λ m h more s. ap (λ e. choice m e (p.front ++ more)) (next-same p.front x.1 more s ∙ ap next_class (sym p.whole)) ∙ p.again m h more s;
    }
    by_tell tokens (Err stop) p = by_stop tokens stop.why stop.rest p

some_class : (a b : Class) → ◌≡◌ {A = Option Class} (Some a) (Some b) → a ≡ b
some_class a b e = cc

none_class : (a : Class) → ◌≡◌ {A = Option Class} None (Some a) → ⊥
none_class a e = cc

tells-step : (k : ℕ) (class : Class) → is_fixed class ≡ true → (tokens : List SourceToken) → next_class tokens ≡ Some class
    → Tells (λ m. step) k (IsToken class) (λ place. Unit {0}) tokens (step tokens)
tells-step k class fixed [] e = absurd (none_class class e)
tells-step k class fixed (token ∷ rest) e = record {
  front = token ∷ [];
  whole = refl;
  spelled = ap (λ t. t ∷ []) (is-fixed-token class fixed token (some_class (class_of token.kind) class e));
  fits = tt;
  again = λ m h more s. refl;
}

tells-down : (k low : ℕ) (class : Class) → is_fixed class ≡ true → (tokens : List SourceToken) → next_class tokens ≡ Some class
    → Tells (λ m. down low m) k (IsToken class) (λ place. low < k) tokens (down low k tokens)
tells-down k low class fixed [] e = absurd (none_class class e)
tells-down k low class fixed (token ∷ rest) e = at (nat_lt low k) refl
  where
    spelled : token ∷ [] ≡ token_of class (place_of token) ∷ []
    spelled = ap (λ t. t ∷ []) (is-fixed-token class fixed token (some_class (class_of token.kind) class e))

    at : (b : Bool) → nat_lt low k ≡ b → Tells (λ m. down low m) k (IsToken class) (λ place. low < k) (token ∷ rest)
        (followed (if b then give (tt {0}) (token ∷ rest) else deep (token ∷ rest)) (λ level. step))
    at true h = record {
      front = token ∷ [];
      whole = refl;
      spelled = spelled;
      fits = ltb-true low k h;
      again = λ m le more s.
          let fits : low < m = omega (arith, ltb-true low k h) in
          ap (λ b. followed (if b then give (tt {0}) (token ∷ more) else deep (token ∷ more)) (λ level. step)) (lt-ltb low m fits);
    }
    at false h = record {
      front = [];
      token = token;
      after = rest;
      next = refl;
      whole = refl;
      value = place_of token;
      tail = [];
      spelled = spelled;
      before = inl refl;
      again = λ more. ap (λ b. followed (if b then give (tt {0}) (token ∷ more) else deep (token ∷ more)) (λ level. step)) h;
    }

-- behind a token whose class was seen
pub branch-step : {C B : Type 0} {Q : ℕ → SourcePlace → Reader B} {k : ℕ} {N : Language B} {G : B → Type 0} {class : Class} → is_fixed class ≡ true
    → ((place : SourcePlace) → Exact C (λ m. Q m place) k (behind (token_of class place ∷ []) N) G)
    → Branch C (λ m. step >>= Q m) k N G (Some class)
branch-step {C} {B} {Q} {k} {N} {G} {class} fixed next = record {
  tells = λ c tokens e. both_tell (λ m. step) Q k (IsToken class) (λ place. Unit {0}) N G C
      (λ place front spelled. subst (λ f. Exact (C × Unit {0}) (λ m. Q m place) k (behind f N) G) (sym spelled) (exact-under (λ c. c.0) (next place)))
      c tokens (step tokens) (tells-step k class fixed tokens e);
}

-- the same, one level down
pub branch-down : {C B : Type 0} {Q : ℕ → SourcePlace → Reader B} {k : ℕ} {N : Language B} {G : B → Type 0} {class : Class} → is_fixed class ≡ true → (low : ℕ)
    → ((place : SourcePlace) → Exact (C × (low < k)) (λ m. Q m place) k (behind (token_of class place ∷ []) N) G)
    → Branch C (λ m. down low m >>= Q m) k N G (Some class)
branch-down {C} {B} {Q} {k} {N} {G} {class} fixed low next = record {
  tells = λ c tokens e. both_tell (λ m. down low m) Q k (IsToken class) (λ place. low < k) N G C
      (λ place front spelled. subst (λ f. Exact (C × (low < k)) (λ m. Q m place) k (behind f N) G) (sym spelled) (next place))
      c tokens (down low k tokens) (tells-down k low class fixed tokens e);
}

-- goes on where a level is left; else the next token would do with more levels
pub branch-ready : {C B : Type 0} {Q : Family B} {k : ℕ} {N : Language B} {G : B → Type 0} {class : Class} (low : ℕ)
    → ((token : SourceToken) → class_of token.kind ≡ class → (x : B) × (ts : List SourceToken) × N x (token ∷ ts))
    → Exact (C × (low < k)) Q k N G
    → Branch C (λ m. ready low m >>= λ level. Q m) k N G (Some class)
branch-ready {C} {B} {Q} {k} {N} {G} {class} low through next = record { tells = λ c tokens e. at c tokens e (nat_lt low k) refl }
  where
    go : (m : ℕ) (tokens : List SourceToken) → low < m → followed (ready low m tokens) (λ level. Q m) ≡ Q m tokens
    go m tokens h = ap (λ b. followed (if b then give (tt {0}) tokens else deep tokens) (λ level. Q m)) (lt-ltb low m h)

    stopped : low < k → (tokens : List SourceToken) (why : Why) (rest : List SourceToken) → Stops Q k N G tokens why rest → Stops (λ m. ready low m >>= λ level. Q m) k N G tokens why rest
    stopped h tokens Wrong rest p = record {
      front = p.front;
      whole = p.whole;
      value = p.value;
      tail = p.tail;
      spelled = p.spelled;
      fits = p.fits;
      again = λ m le more s. go m (p.front ++ more) (omega arith) ∙ p.again m le more s;
    }
    stopped h tokens Deep rest p = record {
      front = p.front;
      token = p.token;
      after = p.after;
      next = p.next;
      whole = p.whole;
      value = p.value;
      tail = p.tail;
      spelled = p.spelled;
      before = p.before;
      again = λ more. go k (p.front ++ p.token ∷ more) h ∙ p.again more;
    }

    told : low < k → (tokens : List SourceToken) (r : Reading B) → Tells Q k N G tokens r → Tells (λ m. ready low m >>= λ level. Q m) k N G tokens r
    told h tokens (Ok x) p = record {
      front = p.front;
      whole = p.whole;
      spelled = p.spelled;
      fits = p.fits;
      again = λ m le more s. go m (p.front ++ more) (omega arith) ∙ p.again m le more s;
    }
    told h tokens (Err stop) p = stopped h tokens stop.why stop.rest p

    at : C → (tokens : List SourceToken) → next_class tokens ≡ Some class → (b : Bool) → nat_lt low k ≡ b
        → Tells (λ m. ready low m >>= λ level. Q m) k N G tokens (followed (if b then give (tt {0}) tokens else deep tokens) (λ level. Q k))
    at c tokens e true h = let some : low < k = ltb-true low k h in told some tokens (Q k tokens) (next.tells (c, some) tokens)
    at c [] e false h = absurd (none_class class e)
    at c (token ∷ rest) e false h =
        let value = through token (some_class (class_of token.kind) class e) in record {
          front = [];
          token = token;
          after = rest;
          next = refl;
          whole = refl;
          value = value.0;
          tail = value.1;
          spelled = value.2;
          before = inl refl;
          again = λ more. ap (λ b. followed (if b then give (tt {0}) (token ∷ more) else deep (token ∷ more)) (λ level. Q k)) h;
        }
