-- Reading a list with a token of one class between its elements is exact.
use Rattle.std.proofs.Common.{◌≡◌, ℕ, Bool, true, false, List, [], ◌∷◌, ◌++◌, Option, Some, None, refl, sym, ◌∙◌, ap, subst, arith, append_assoc}
use Rattle.std.proofs.lemmas.List.{append-nil}
use Rattle.std.specs.Prelude.{if◌then◌else◌}
use Rattle.vf_base.specs.Base.{SourcePlace}
use Rattle.v_tree.specs.Tokens.{SourceToken}
use Rattle.v_readers.specs.declared.class.Class.{Class}
use Rattle.v_readers.specs.Classes.{is_fixed, token_of}
use Rattle.v_readers.specs.ClassLaws.{same_class-true}
use Rattle.v_readers.specs.Reading.{◌>>=◌, give, is_class, step}
use Rattle.v_readers.specs.Exact.{Language, Family, Exact, exact-bind, exact-under, exact-give}
use Rattle.v_readers.specs.Branches.{Branch, branch, branch-step, exact-by_class}
use Rattle.v_readers.specs.Repeat.{Turn, TurnFits, exact-repeat}
use Rattle.v_readers.specs.Separated.{SpellsBehind, SpellsList, element_by, element_turn, separated}

pub is_class-true : (m : Class) (class : Option Class) → is_class m class ≡ true → class ≡ Some m
is_class-true m None h = absurd (let p : false ≡ true = h in cc)
is_class-true m (Some n) h = ap Some (sym (same_class-true m n h))

-- each fits
abbrev pub EachFits : {A : Type 0} → (A → Type 0) → List A → Type 0
EachFits F [] = Unit {0}
EachFits F (x ∷ xs) = F x × EachFits F xs

pub behind-append : {A : Type 0} (L : Language A) (m : Class) (xs : List A) (front : List SourceToken) (x : A) (place : SourcePlace) (inside : List SourceToken)
    → SpellsBehind L m xs front → L x inside → SpellsBehind L m (xs ++ x ∷ []) (front ++ token_of m place ∷ (inside ++ []))
behind-append L m [] front x place inside h s = (place, inside, [], s, refl, ap (λ f. f ++ token_of m place ∷ (inside ++ [])) h)
behind-append L m (y ∷ xs) front x place inside h s = (
  h.0,
  h.1,
  h.2 ++ token_of m place ∷ (inside ++ []),
  h.3,
  behind-append L m xs h.2 x place inside h.4 s,
  ap (λ f. f ++ token_of m place ∷ (inside ++ [])) h.5 ∙ ap (λ f. token_of m h.0 ∷ f) (append_assoc h.1 h.2 (token_of m place ∷ (inside ++ []))),
)

pub list-append : {A : Type 0} (L : Language A) (m : Class) (xs : List A) (front : List SourceToken) (x : A) (place : SourcePlace) (inside : List SourceToken)
    → SpellsList L m xs front → L x inside → SpellsList L m (xs ++ x ∷ []) (front ++ token_of m place ∷ (inside ++ []))
list-append L m [] front x place inside h s = absurd h
list-append L m (y ∷ xs) front x place inside h s = (
  h.0,
  h.1 ++ token_of m place ∷ (inside ++ []),
  h.2,
  behind-append L m xs h.1 x place inside h.3 s,
  ap (λ f. f ++ token_of m place ∷ (inside ++ [])) h.4 ∙ append_assoc h.0 h.1 (token_of m place ∷ (inside ++ [])),
)

pub fits-append : {A : Type 0} (F : A → Type 0) (xs : List A) (x : A) → EachFits F xs → F x → EachFits F (xs ++ x ∷ [])
fits-append F [] x h f = (f, tt)
fits-append F (y ∷ xs) x h f = (h.0, fits-append F xs x h.1 f)

module _ {C A : Type 0} (P : Family A) (k : ℕ) (L : Language A) (F : A → Type 0) (m : Class) (fixed : is_fixed m ≡ true) (element : Exact C P k L F) where
  pub turn-exact : (xs : List A) (front : List SourceToken) → SpellsList L m xs front
      → Exact (C × EachFits F xs) (λ n. element_turn m (P n) xs) k (Turn (SpellsList L m) xs front) (TurnFits (EachFits F))
  turn-exact xs front here = exact-by_class (λ n. element_by m (P n) xs) ((None, [], refl), λ c. (None, [], refl, tt)) (λ class. each class (is_class m class) refl)
    where
      each : (class : Option Class) (b : Bool) → is_class m class ≡ b
          → Branch (C × EachFits F xs) (λ n. if b then (step >>= λ place. P n >>= λ x. give (Some (xs ++ x ∷ []))) else give None) k (Turn (SpellsList L m) xs front) (TurnFits (EachFits F)) class
      each class false e = branch (exact-give None refl (λ c. tt))
      each class true e = subst (λ w. Branch (C × EachFits F xs) (λ n. step >>= λ place. P n >>= λ x. give (Some (xs ++ x ∷ []))) k (Turn (SpellsList L m) xs front) (TurnFits (EachFits F)) w)
          (sym (is_class-true m class e))
          (branch-step fixed (λ place.
          exact-bind (exact-under (λ c. c.0) element) (λ x inside spelled.
          exact-give (Some (xs ++ x ∷ [])) (list-append L m xs front x place inside here spelled, omega arith)
          (λ c. fits-append F xs x c.0.1 c.1))))

  pub exact-separated : Exact C (λ n. separated m (P n)) k (SpellsList L m) (EachFits F)
  unfolding separated
  exact-separated = exact-bind element (λ x front spelled.
      exact-under (λ c. (c.0, (c.1, tt)))
      (exact-repeat {C = C} (λ n. element_turn m (P n)) {N = SpellsList L m} {G = EachFits F} turn-exact (x ∷ []) front (front, [], spelled, refl, sym (append-nil front))))
