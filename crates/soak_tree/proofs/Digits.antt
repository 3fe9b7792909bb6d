-- The digits of a number go in names, and there is one at least.
use Rattle.std.proofs.Common.{◌≡◌, ℕ, ◌+◌, ◌%◌, ◌<◌, ◌^◌, Bool, true, false, ◌||◌, List, [], ◌∷◌, ◌++◌, refl, sym, subst, arith}
use Rattle.std.specs.Prelude.{◌==◌}
use Rattle.std.specs.Fmt.{decimal}
use Rattle.std.proofs.lemmas.Bool.{and_parts, and_from, le-leb}
use Rattle.std.proofs.lemmas.Fmt.{decimal_by_steps}
use Rattle.v_scan.specs.Bytes.{is_letter, is_digit, goes_in_name, each}

digit-digit : (n : ℕ) → n < 10 → is_digit (48 + n) ≡ true
digit-digit n low = and_from _ _ (le-leb 48 (48 + n) (omega arith)) (le-leb (48 + n) 57 (omega arith))

pub each-append : (p : ℕ → Bool) (xs ys : List ℕ) → each p xs ≡ true → each p ys ≡ true → each p (xs ++ ys) ≡ true
each-append p [] ys h d = d
each-append p (x ∷ xs) ys h d = let parts = and_parts (p x) (each p xs) h in and_from (p x) (each p (xs ++ ys)) parts.0 (each-append p xs ys parts.1 d)

-- a first digit, and digits behind it
pub record HasDigits (digits : List ℕ) : Type 0 where
  pub first : ℕ
  pub rest : List ℕ
  pub whole : digits ≡ first ∷ rest
  pub is : is_digit first ≡ true
  pub others : each is_digit rest ≡ true

more-digits : (ds : List ℕ) (n : ℕ) → n < 10 → HasDigits ds → HasDigits (ds ++ (48 + n) ∷ [])
more-digits ds n low h = record {
  first = h.first;
  rest = h.rest ++ (48 + n) ∷ [];
  whole = rw h.whole refl;
  is = h.is;
  others = each-append is_digit h.rest ((48 + n) ∷ []) h.others (and_from (is_digit (48 + n)) true (digit-digit n low) refl);
}

pub decimal-digits : (n : ℕ) → n < 2 ^ 64 → HasDigits (decimal n)
decimal-digits n low =
    decimal_by_steps (λ (n : ℕ) (ds : List ℕ). HasDigits ds) (λ n less. record { first = 48 + n; rest = []; whole = refl; is = digit-digit n less; others = refl })
    (λ n ds ten h. more-digits ds (n % 10) (omega arith) h) n low

pub digit-in-name : (b : ℕ) → is_digit b ≡ true → goes_in_name b ≡ true
digit-in-name b h = subst (λ t. (is_letter b || t || (b == 36)) ≡ true) (sym h) (elim (is_letter b) as (λ l. (l || true || (b == 36)) ≡ true) [ true ↦ refl | false ↦ refl ])

digits-in-name : (bs : List ℕ) → each is_digit bs ≡ true → each goes_in_name bs ≡ true
digits-in-name [] h = refl
digits-in-name (b ∷ bs) h = let parts = and_parts (is_digit b) (each is_digit bs) h in and_from (goes_in_name b) (each goes_in_name bs) (digit-in-name b parts.0) (digits-in-name bs parts.1)

pub decimal-in-name : (n : ℕ) → n < 2 ^ 64 → each goes_in_name (decimal n) ≡ true
decimal-in-name n low =
    let h = decimal-digits n low in
    subst (λ bs. each goes_in_name bs ≡ true) (sym h.whole) (and_from (goes_in_name h.first) (each goes_in_name h.rest) (digit-in-name h.first h.is) (digits-in-name h.rest h.others))
