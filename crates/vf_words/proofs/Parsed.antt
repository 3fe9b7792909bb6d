-- What `parse` says of the numbers of the command line.
use Rattle.std.proofs.Common.{◌≡◌, ℕ, zero, suc, ◌≤◌, ◌<◌, ◌^◌, ◌&&◌, List, [], ◌∷◌, Bool, true, false, not, Option, Some, None, length, get_or, refl, sym, ap, ◌∙◌, subst, arith}
use Rattle.std.specs.Prelude.{nat_eq}
use Rattle.std.specs.Fmt.{decimal}
use Rattle.std.specs.Str.Parse.{digits_value, AllDigits, IsNumeral, without_leading_plus}
use Rattle.std.proofs.lemmas.Bool.{and_parts, both_ways, not-true, eqb-true, eq-eqb, ne_eqb}
use Rattle.std.proofs.lemmas.Str.Parse.{IsNumeralModel, numerals_by_value, tells_digits, without_leading_plus_none, digit_at}
use Rattle.std.proofs.lemmas.Fmt.{decimal_is_IsNumeral, decimal-digits_value, decimal_digit, first_decimal}
use Rattle.vf_words.specs.Number.{number_between, is_plain}
use Rattle.vf_words.specs.NumberLaws.{IsNumber, number-is, number-from, number-none}

-- a plain word has no plus in front, and a zero there stands alone
pub record IsPlain (word : List ℕ) : Type 0 where
  pub unsigned : get_or word 0 0 ≡ 43 → ⊥
  pub lone : get_or word 0 0 ≡ 48 → length word ≤ 1

not-it : (a b : ℕ) → not (nat_eq a b) ≡ true → a ≡ b → ⊥
not-it a b e same = both_ways (nat_eq a b) (not-true (nat_eq a b) e) (eq-eqb a b same)

pub plain-is : (word : List ℕ) → is_plain word ≡ true → IsPlain word
plain-is [] e = record { unsigned = λ f. omega (arith, f); lone = λ f. omega arith }
plain-is (only ∷ []) e = record { unsigned = not-it only 43 e; lone = λ f. omega arith }
plain-is (first ∷ second ∷ rest) e =
    let parts = and_parts (not (nat_eq first 43)) (not (nat_eq first 48)) e in
    record { unsigned = not-it first 43 parts.0; lone = λ f. absurd (not-it first 48 parts.1 f) }

it-is-not : (a b : ℕ) → (a ≡ b → ⊥) → not (nat_eq a b) ≡ true
it-is-not a b differ = ap not (ne_eqb a b differ)

plain-from : (word : List ℕ) → IsPlain word → is_plain word ≡ true
plain-from [] h = refl
plain-from (only ∷ []) h = it-is-not only 43 h.unsigned
plain-from (first ∷ second ∷ rest) h =
    ap (λ b. b && not (nat_eq first 48)) (it-is-not first 43 h.unsigned) ∙ it-is-not first 48 (λ f. omega (arith, h.lone f))

-- decimal texts are plain
decimal-plain : (n : ℕ) → n < 2 ^ 64 → IsPlain (decimal n)
decimal-plain n few =
    let digits = (decimal_is_IsNumeral n few).0 in
    record { unsigned = λ e. omega (arith, digit_at (decimal n) 0 digits.1 digits.0, e); lone = lone n few }
  where
    lone : (n : ℕ) → n < 2 ^ 64 → get_or (decimal n) 0 0 ≡ 48 → length (decimal n) ≤ 1
    lone zero few e = omega (arith, ap length (decimal_digit 0 (omega arith)))
    lone (suc m) few e = absurd (omega (arith, first_decimal (suc m) (omega arith) few, e))

unsigned-text : (word : List ℕ) → IsPlain word → without_leading_plus word ≡ word
unsigned-text word h = without_leading_plus_none word h.unsigned

-- where it refuses a word
pub refused : (least most : ℕ) (word : List ℕ) → most < 2 ^ 32 → (IsNumeral 10 (without_leading_plus word) × (digits_value 10 (without_leading_plus word) < 2 ^ 32) → ⊥)
    → None ≡ number_between least most word
refused least most word small never = sym (number-none least most word (λ h. never (read (digits_value 10 word) h)))
  where
    read : (value : ℕ) → IsNumber least most word value → IsNumeral 10 (without_leading_plus word) × (digits_value 10 (without_leading_plus word) < 2 ^ 32)
    read value h =
        let below : value < 2 ^ 32 = omega (arith, h.high, small) in
        let few : value < 2 ^ 64 = omega (arith, below) in
        let digits = decimal_is_IsNumeral value few in
        let same : decimal value ≡ without_leading_plus word = sym (unsigned-text word (subst IsPlain (sym h.text) (decimal-plain value few)) ∙ h.text) in
        subst (λ text. IsNumeral 10 text × (digits_value 10 text < 2 ^ 32)) same (digits.0, subst (λ n. n < 2 ^ 32) (sym digits.1) below)

-- where a word that it takes isn't plain
pub ornate : (least most : ℕ) (word : List ℕ) → most < 2 ^ 32 → is_plain word ≡ false → None ≡ number_between least most word
ornate least most word small e = sym (number-none least most word (λ h. both_ways (is_plain word) e (plain (digits_value 10 word) h)))
  where
    plain : (value : ℕ) → IsNumber least most word value → is_plain word ≡ true
    plain value h = ap is_plain h.text ∙ plain-from (decimal value) (decimal-plain value (omega (arith, h.high, small)))

-- what it says of a plain word that it takes
pub record IsTaken (word : List ℕ) (number : ℕ) : Type 0 where
  pub text : word ≡ decimal number
  pub value : number ≡ digits_value 10 word

pub taken : (word : List ℕ) (number : ℕ) → is_plain word ≡ true → (IsNumeral 10 (without_leading_plus word) × (digits_value 10 (without_leading_plus word) < 2 ^ 32))
    × (number ≡ digits_value 10 (without_leading_plus word))
    → IsTaken word number
taken word number e h =
    let plain = plain-is word e in
    let same = unsigned-text word plain in
    let own : IsNumeralModel (AllDigits 10) (digits_value 10) = numerals_by_value (AllDigits 10) tells_digits in
    let numeral : IsNumeral 10 word = subst (IsNumeral 10) same h.0.0 in
    let value : number ≡ digits_value 10 word = h.1 ∙ ap (digits_value 10) same in
    let few : digits_value 10 word < 2 ^ 64 = omega (arith, h.0.1, ap (digits_value 10) same) in
    record { text = sym (ap decimal value ∙ decimal-digits_value own word numeral.1 numeral.0 (λ f. omega (arith, plain.lone f, numeral.0)) few); value = value }

pub too-low : (least most number : ℕ) (word : List ℕ) → IsTaken word number → number < least → None ≡ number_between least most word
too-low least most number word h less = sym (number-none least most word (λ is. omega (arith, is.low, less, h.value)))

pub too-high : (least most number : ℕ) (word : List ℕ) → IsTaken word number → most < number → None ≡ number_between least most word
too-high least most number word h more = sym (number-none least most word (λ is. omega (arith, is.high, more, h.value)))

pub within : (least most number : ℕ) (word : List ℕ) → IsTaken word number → least ≤ number → number ≤ most → Some number ≡ number_between least most word
within least most number word h low high =
    ap Some h.value ∙ sym (number-from least most word (subst (IsNumber least most word) h.value record { text = h.text; low = low; high = high }))
