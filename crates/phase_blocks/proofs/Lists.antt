-- Lists, flags and stretches of events in two parts.
use Rattle.std.proofs.Common.{◌≡◌, ℕ, zero, suc, ◌≤◌, List, [], ◌∷◌, ◌++◌, length, Bool, true, false, ◌||◌, refl, ap, ◌∙◌, arith}
use Rattle.std.specs.Prelude.{Some, take}
use Rattle.v_design.specs.Designs.{Machine}
use Rattle.v_design.specs.States.{State, Event, after, some_in}
use Rattle.v_design.specs.Runs.{first_event, happened}
use Rattle.copy_laws.specs.Beside.{AreFirst}

pub true-false : {A : Type 0} (b : Bool) → b ≡ true → b ≡ false → A
true-false true e f = cc
true-false false e f = cc

pub or-neither : (a b : Bool) → (a || b) ≡ false → (a ≡ false) × (b ≡ false)
or-neither true b e = cc
or-neither false b e = (refl, e)

-- Some element of a list

pub some_in-push : {A : Type 0} (test : A → Bool) (xs : List A) (x : A) → some_in test (xs ++ x ∷ []) ≡ (some_in test xs || test x)
some_in-push test [] x = only (test x)
  where
    only : (b : Bool) → (b || false) ≡ b
    only true = refl
    only false = refl
some_in-push test (y ∷ xs) x = ap (λ b. test y || b) (some_in-push test xs x) ∙ assoc (test y) (some_in test xs) (test x)
  where
    assoc : (a b c : Bool) → (a || (b || c)) ≡ ((a || b) || c)
    assoc true b c = refl
    assoc false b c = refl

-- one element more that doesn't pass, or does
pub push-none : {A : Type 0} (test : A → Bool) (xs : List A) (x : A) → test x ≡ false → some_in test (xs ++ x ∷ []) ≡ some_in test xs
push-none test xs x e = some_in-push test xs x ∙ ap (λ b. some_in test xs || b) e ∙ same (some_in test xs)
  where
    same : (b : Bool) → (b || false) ≡ b
    same true = refl
    same false = refl

pub push-last : {A : Type 0} (test : A → Bool) (xs : List A) (x : A) → test x ≡ true → some_in test (xs ++ x ∷ []) ≡ true
push-last test xs x e = some_in-push test xs x ∙ ap (λ b. some_in test xs || b) e ∙ any (some_in test xs)
  where
    any : (b : Bool) → (b || true) ≡ true
    any true = refl
    any false = refl

-- an element that passes a test passes a weaker one
pub some-weaker : {A : Type 0} (test weaker : A → Bool) (xs : List A) → ((x : A) → test x ≡ true → weaker x ≡ true) → some_in test xs ≡ true → some_in weaker xs ≡ true
some-weaker test weaker [] h e = cc
some-weaker test weaker (x ∷ xs) h e = go (test x) refl e (some-weaker test weaker xs h)
  where
    right : (b : Bool) → (b || true) ≡ true
    right true = refl
    right false = refl

    go : (b : Bool) → test x ≡ b → (b || some_in test xs) ≡ true → (some_in test xs ≡ true → some_in weaker xs ≡ true) → (weaker x || some_in weaker xs) ≡ true
    go true f g rest = ap (λ b. b || some_in weaker xs) (h x f)
    go false f g rest = ap (λ b. weaker x || b) (rest g) ∙ right (weaker x)

-- Events in two parts

pub happened-append : (machine : Machine) (state : State) (first more : List Event) → happened machine state (first ++ more) ≡ happened machine (happened machine state first) more
happened-append machine state [] more = refl
happened-append machine state (event ∷ first) more = happened-append machine (after machine state event) first more

pub first-before : (machine : Machine) (state : State) (first more : List Event) → AreFirst machine state (first ++ more) → AreFirst machine state first
first-before machine state [] more f = tt
first-before machine state (event ∷ first) more f = (f.0, first-before machine (after machine state event) first more f.1)

pub first-behind : (machine : Machine) (state : State) (first more : List Event) → AreFirst machine state (first ++ more) → AreFirst machine (happened machine state first) more
first-behind machine state [] more f = f
first-behind machine state (event ∷ first) more f = first-behind machine (after machine state event) first more f.1

pub first-joined : (machine : Machine) (state : State) (first more : List Event) → AreFirst machine state first → AreFirst machine (happened machine state first) more →
    AreFirst machine state (first ++ more)
first-joined machine state [] more f g = g
first-joined machine state (event ∷ first) more f g = (f.0, first-joined machine (after machine state event) first more f.1 g)

-- one event more
pub first-more : (machine : Machine) (state : State) (events : List Event) (event : Event) → AreFirst machine state events → first_event (happened machine state events) ≡ Some event →
    AreFirst machine state (events ++ event ∷ [])
first-more machine state events event f e = first-joined machine state events (event ∷ []) f (e, tt)

-- Parts of a list with one element more

pub length-more : {A : Type 0} (xs : List A) (x : A) → length (xs ++ x ∷ []) ≡ suc (length xs)
length-more [] x = refl
length-more (y ∷ xs) x = let e : length (xs ++ x ∷ []) ≡ suc (length xs) = length-more xs x in omega (arith, e)

pub take-within : {A : Type 0} (number : ℕ) (xs : List A) (x : A) → number ≤ length xs → take number (xs ++ x ∷ []) ≡ take number xs
take-within zero xs x h = refl
take-within (suc number) [] x h = absurd (omega arith)
take-within (suc number) (y ∷ xs) x h = ap (λ l. y ∷ l) (take-within number xs x (omega (arith, h)))

pub take-whole : {A : Type 0} (number : ℕ) (xs : List A) → length xs ≤ number → take number xs ≡ xs
take-whole zero [] h = refl
take-whole (suc number) [] h = refl
take-whole zero (x ∷ xs) h = absurd (omega arith)
take-whole (suc number) (x ∷ xs) h = ap (λ l. x ∷ l) (take-whole number xs (omega (arith, h)))
