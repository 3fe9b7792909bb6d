-- A number on the command line stands for one number within its limits, and each number within them is spelled in one way.
use Rattle.std.proofs.Common.{◌≡◌, ℕ, ◌≤◌, ◌<◌, ◌^◌, ◌&&◌, List, Option, Some, None, refl, sym, ap, ◌∙◌, subst, true, arith}
use Rattle.std.specs.Prelude.{nat_le}
use Rattle.std.specs.Fmt.{decimal}
use Rattle.std.specs.Str.{bytes_eq}
use Rattle.std.specs.Str.Parse.{digits_value}
use Rattle.std.proofs.lemmas.Bool.{and_parts, and_from, cond-true, cond-false, leb-true, le-leb, false_from_ne_true}
use Rattle.std.proofs.lemmas.Option.{cond_some}
use Rattle.std.proofs.lemmas.Slice.Eq.{bytes_eq-Decides}
use Rattle.std.proofs.lemmas.Fmt.{decimal_is_IsNumeral}
use Rattle.vf_words.specs.Number.{number_between}

-- the word is the text of its number, and that is within the limits
pub record IsNumber (least most : ℕ) (word : List ℕ) (number : ℕ) : Type 0 where
  pub text : word ≡ decimal number
  pub low : least ≤ number
  pub high : number ≤ most

-- where there is a number
pub number-is : (least most : ℕ) (word : List ℕ) (number : ℕ) → number_between least most word ≡ Some number → IsNumber least most word number
unfolding number_between
number-is least most word number e =
    let value : ℕ = digits_value 10 word in
    let some = cond_some (bytes_eq word (decimal value) && (nat_le least value && nat_le value most)) value number e in
    let parts = and_parts (bytes_eq word (decimal value)) (nat_le least value && nat_le value most) some.0 in
    let limits = and_parts (nat_le least value) (nat_le value most) parts.1 in
    subst (IsNumber least most word) some.1
    record { text = (bytes_eq-Decides word (decimal value)).0 parts.0; low = leb-true least value limits.0; high = leb-true value most limits.1 }

-- the word is a number where it is the text of its value, within the limits
pub number-from : (least most : ℕ) (word : List ℕ) → IsNumber least most word (digits_value 10 word) → number_between least most word ≡ Some (digits_value 10 word)
unfolding number_between
number-from least most word h =
    let value : ℕ = digits_value 10 word in
    cond-true (bytes_eq word (decimal value) && (nat_le least value && nat_le value most)) (Some value) None
    (and_from (bytes_eq word (decimal value)) (nat_le least value && nat_le value most) ((bytes_eq-Decides word (decimal value)).1 h.text)
    (and_from (nat_le least value) (nat_le value most) (le-leb least value h.low) (le-leb value most h.high)))

-- the word is no number where it isn't
pub number-none : (least most : ℕ) (word : List ℕ) → (IsNumber least most word (digits_value 10 word) → ⊥) → number_between least most word ≡ None
unfolding number_between
number-none least most word never =
    let value : ℕ = digits_value 10 word in
    cond-false (bytes_eq word (decimal value) && (nat_le least value && nat_le value most)) (Some value) None
    (false_from_ne_true (bytes_eq word (decimal value) && (nat_le least value && nat_le value most))
    (λ e. never (record-of value e)))
  where
    record-of : (value : ℕ) → (bytes_eq word (decimal value) && (nat_le least value && nat_le value most)) ≡ true → IsNumber least most word value
    record-of value e =
        let parts = and_parts (bytes_eq word (decimal value)) (nat_le least value && nat_le value most) e in
        let limits = and_parts (nat_le least value) (nat_le value most) parts.1 in
        record { text = (bytes_eq-Decides word (decimal value)).0 parts.0; low = leb-true least value limits.0; high = leb-true value most limits.1 }

-- each number within the limits has a spelling, its decimal text
pub number-spelled : (least most number : ℕ) → most < 2 ^ 64 → least ≤ number → number ≤ most → number_between least most (decimal number) ≡ Some number
number-spelled least most number small low high =
    let value : digits_value 10 (decimal number) ≡ number = (decimal_is_IsNumeral number (omega arith)).1 in
    number-from least most (decimal number) record { text = ap decimal (sym value); low = subst (λ n. least ≤ n) (sym value) low; high = subst (λ n. n ≤ most) (sym value) high }
    ∙ ap Some value
