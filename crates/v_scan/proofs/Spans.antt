-- Lists of bytes, and the longest front of a list that passes a test.
use Rattle.std.proofs.Common.{◌≡◌, ℕ, suc, ◌≤◌, ◌-◌, Bool, true, false, ◌&&◌, ◌||◌, not, List, [], ◌∷◌, ◌++◌, length, take, Option, Some, None, refl, sym, ◌∙◌, ap, subst, arith, length-append, inl}
use Rattle.std.proofs.Common.{inr, ◌⊎◌, eqb-true, eq-eqb}
use Rattle.std.proofs.lemmas.List.{append-nil}
use Rattle.std.proofs.Math.Seq.{take-append_seam}
use Rattle.std.specs.Prelude.{◌==◌, if◌then◌else◌}
use Rattle.v_scan.specs.Bytes.{each, Stops}
use Rattle.v_scan.specs.Reading.{front_while, back_while, starts}

-- Tests

pub and-true : (a b : Bool) → (a && b) ≡ true → (a ≡ true) × (b ≡ true)
and-true true b h = (refl, h)
and-true false b h = absurd (let p : false ≡ true = h in cc)

pub or-true : (a b : Bool) → (a || b) ≡ true → (a ≡ true) ⊎ (b ≡ true)
or-true true b h = inl refl
or-true false b h = inr h

pub or-false : (a b : Bool) → (a || b) ≡ false → (a ≡ false) × (b ≡ false)
or-false true b h = absurd (let p : true ≡ false = h in cc)
or-false false b h = (refl, h)

pub not-true : (b : Bool) → not b ≡ true → b ≡ false
not-true true h = absurd (let p : false ≡ true = h in cc)
not-true false h = refl

pub true-false : {P : Type 0} → (b : Bool) → b ≡ true → b ≡ false → P
true-false b h g = absurd (let p : true ≡ false = sym h ∙ g in cc)

-- Lists

pub heads : (b c : ℕ) (bs cs : List ℕ) → ◌≡◌ {A = List ℕ} (b ∷ bs) (c ∷ cs) → b ≡ c
heads b c bs cs e = cc

pub tails : (b c : ℕ) (bs cs : List ℕ) → ◌≡◌ {A = List ℕ} (b ∷ bs) (c ∷ cs) → bs ≡ cs
tails b c bs cs e = cc

pub no_cons : {P : Type 0} → (b : ℕ) (bs : List ℕ) → ◌≡◌ {A = List ℕ} [] (b ∷ bs) → P
no_cons b bs e = absurd (cc)

pub some_same : (n m : List ℕ) → ◌≡◌ {A = Option (List ℕ)} (Some n) (Some m) → n ≡ m
some_same n m g = cc

pub none_some : {P : Type 0} → (m : List ℕ) → ◌≡◌ {A = Option (List ℕ)} None (Some m) → P
none_some m g = absurd (cc)

-- equal fronts cancel
pub cancel : (front a b : List ℕ) → front ++ a ≡ front ++ b → a ≡ b
cancel [] a b e = e
cancel (c ∷ front) a b e = cancel front a b (tails c c (front ++ a) (front ++ b) e)

-- equal ends cancel
pub cancel_back : (a b back : List ℕ) → a ++ back ≡ b ++ back → a ≡ b
cancel_back [] [] back e = refl
cancel_back [] (c ∷ b) back e = absurd (omega (arith, ap length e, length-append (c ∷ b) back))
cancel_back (c ∷ a) [] back e = absurd (omega (arith, ap length e, length-append (c ∷ a) back))
cancel_back (c ∷ a) (d ∷ b) back e =
    ap (λ x. x ∷ a) (heads c d (a ++ back) (b ++ back) e) ∙ ap (λ t. d ∷ t) (cancel_back a b back (tails c d (a ++ back) (b ++ back) e))

-- fronts of one length are one
pub prefix-one : (v w more rest : List ℕ) → length v ≡ length w → v ++ more ≡ w ++ rest → v ≡ w
prefix-one [] [] more rest h e = refl
prefix-one [] (b ∷ w) more rest h e = absurd (let q : 0 ≡ suc (length w) = h in omega arith)
prefix-one (b ∷ v) [] more rest h e = absurd (let q : suc (length v) ≡ 0 = h in omega arith)
prefix-one (b ∷ v) (c ∷ w) more rest h e =
    let first : b ≡ c = heads b c (v ++ more) (w ++ rest) e in
    let others = prefix-one v w more rest (omega arith) (tails b c (v ++ more) (w ++ rest) e) in
    ap (λ d. d ∷ v) first ∙ ap (λ f. c ∷ f) others

-- a front is what is taken by its length
pub front-bytes : (rest a back : List ℕ) → rest ≡ a ++ back → take (length rest - length back) rest ≡ a
front-bytes rest a back e =
    let n : length rest - length back ≡ length a = omega (arith, ap length e, length-append a back) in
    ap (λ k. take k rest) n ∙ ap (take (length a)) e ∙ take-append_seam a back

pub starts-append : (m rest : List ℕ) → starts m (m ++ rest) ≡ true
starts-append [] rest = refl
starts-append (c ∷ m) rest = rw (eq-eqb c c refl, starts-append m rest) refl

pub starts-rest : (m text : List ℕ) → starts m text ≡ true → (rest : List ℕ) × (text ≡ m ++ rest)
starts-rest [] text h = (text, refl)
starts-rest (c ∷ m) [] h = absurd (let q : false ≡ true = h in cc)
starts-rest (c ∷ m) (b ∷ bs) h =
    let both = and-true (b == c) (starts m bs) h in
    let r = starts-rest m bs both.1 in
    (r.0, ap (λ d. d ∷ bs) (eqb-true b c both.0) ∙ ap (λ f. c ∷ f) r.1)

-- Fronts that pass a test

module _ (p : ℕ → Bool) where
  pub while-whole : (text : List ℕ) → text ≡ front_while p text ++ back_while p text
  while-whole [] = refl
  while-whole (b ∷ bs) = at (while-whole bs) (p b)
    where
      at : bs ≡ front_while p bs ++ back_while p bs → (t : Bool) → b ∷ bs ≡ (if t then b ∷ front_while p bs else []) ++ (if t then back_while p bs else b ∷ bs)
      at rest true = ap (λ e. b ∷ e) rest
      at rest false = refl

  pub while-each : (text : List ℕ) → each p (front_while p text) ≡ true
  while-each [] = refl
  while-each (b ∷ bs) = at (while-each bs) (p b) refl
    where
      at : each p (front_while p bs) ≡ true → (t : Bool) → p b ≡ t → each p (if t then b ∷ front_while p bs else []) ≡ true
      at rest true h = rw (h, rest) refl
      at rest false h = refl

  pub while-stops : (text : List ℕ) → Stops p (back_while p text)
  while-stops [] = tt
  while-stops (b ∷ bs) = at (while-stops bs) (p b) refl
    where
      at : Stops p (back_while p bs) → (t : Bool) → p b ≡ t → Stops p (if t then back_while p bs else b ∷ bs)
      at rest true h = rest
      at rest false h = h

  pub while-longest : (text v more : List ℕ) → each p v ≡ true → v ++ more ≡ text → length v ≤ length (front_while p text)
  while-longest text [] more h e = omega arith
  while-longest [] (c ∷ v) more h e = no_cons c (v ++ more) (sym e)
  while-longest (b ∷ bs) (c ∷ v) more h e =
      let both = and-true (p c) (each p v) h in
      let same : b ≡ c = sym (heads c b (v ++ more) bs e) in
      let rest = while-longest bs v more both.1 (tails c b (v ++ more) bs e) in
      subst (λ t. suc (length v) ≤ length (if t then b ∷ front_while p bs else [])) (sym (ap p same ∙ both.0)) (omega (arith, rest))

  pub while-exact : (v rest : List ℕ) → each p v ≡ true → Stops p rest → front_while p (v ++ rest) ≡ v
  while-exact [] [] h stops = refl
  while-exact [] (b ∷ bs) h stops = ap (λ t. if t then b ∷ front_while p bs else []) stops
  while-exact (c ∷ v) rest h stops =
      let both = and-true (p c) (each p v) h in
      ap (λ t. if t then c ∷ front_while p (v ++ rest) else []) both.0 ∙ ap (λ e. c ∷ e) (while-exact v rest both.1 stops)

  pub while-behind : (v rest : List ℕ) → each p v ≡ true → Stops p rest → back_while p (v ++ rest) ≡ rest
  while-behind [] [] h stops = refl
  while-behind [] (b ∷ bs) h stops = ap (λ t. if t then back_while p bs else b ∷ bs) stops
  while-behind (c ∷ v) rest h stops =
      let both = and-true (p c) (each p v) h in
      ap (λ t. if t then back_while p (v ++ rest) else c ∷ (v ++ rest)) both.0 ∙ while-behind v rest both.1 stops

  -- all of a list that passes
  pub while-all : (v : List ℕ) → each p v ≡ true → front_while p v ≡ v
  while-all v h = ap (front_while p) (sym (append-nil v)) ∙ while-exact v [] h tt

  pub while-rest : (v : List ℕ) → each p v ≡ true → back_while p v ≡ []
  while-rest v h = ap (back_while p) (sym (append-nil v)) ∙ while-behind v [] h tt
