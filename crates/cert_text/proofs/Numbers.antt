-- Numbers in decimal, as they are read.
use Rattle.std.proofs.Common.{◌≡◌, ℕ, zero, suc, ◌+◌, ◌-◌, ◌*◌, ◌≤◌, ◌<◌, ◌^◌, ◌&&◌, List, [], ◌∷◌, ◌++◌, Bool, true, false, Option, Some, None, length, get_or}
use Rattle.std.proofs.Common.{length-append, refl, sym, ap, ◌∙◌, subst, arith, lit<, lit≤}
use Rattle.std.specs.Prelude.{nat_le, if◌then◌else◌}
use Rattle.std.specs.Option.{SomeIff}
use Rattle.std.specs.Char.{digit_value}
use Rattle.std.specs.Fmt.{decimal}
use Rattle.std.specs.Str.{bytes_eq}
use Rattle.std.specs.Str.Parse.{digits_value, digits_value_after, AllDigits, IsNumeral}
use Rattle.std.specs.Int.{IsInRange}
use Rattle.std.proofs.lemmas.Bool.{and_parts, and_from, cond-true, cond-false, leb-true, le-leb, false_from_ne_true}
use Rattle.std.proofs.lemmas.Option.{cond_some, none-some, same_Some}
use Rattle.std.proofs.lemmas.Slice.Eq.{bytes_eq-Decides}
use Rattle.std.proofs.lemmas.Str.Parse.{IsNumeralModel, numerals_by_value, tells_digits, digit_from_value}
use Rattle.std.proofs.lemmas.Str.{digit_value_digit}
use Rattle.std.proofs.lemmas.Fmt.{decimal_is_IsNumeral, decimal-digits_value, first_decimal, decimal_digit, length-decimal-le}
use Rattle.text_lines.specs.Text.{number_after, is_digit}
use Rattle.cert_laws.specs.Claims.{number_within, most_long, most_short}

-- the word is the text of its number, and that is within the limit
pub record IsNumber (most : ℕ) (word : List ℕ) (number : ℕ) : Type 0 where
  pub text : word ≡ decimal number
  pub high : number ≤ most

-- where there is a number
pub number-is : (most : ℕ) (word : List ℕ) (number : ℕ) → number_within most word ≡ Some number → IsNumber most word number
number-is most word number e =
    let value : ℕ = digits_value 10 word in
    let some = cond_some (bytes_eq word (decimal value) && nat_le value most) value number e in
    let parts = and_parts (bytes_eq word (decimal value)) (nat_le value most) some.0 in
    subst (IsNumber most word) some.1 record { text = (bytes_eq-Decides word (decimal value)).0 parts.0; high = leb-true value most parts.1 }

-- the word is a number where it is the text of its value, within the limit
pub number-from : (most : ℕ) (word : List ℕ) → IsNumber most word (digits_value 10 word) → number_within most word ≡ Some (digits_value 10 word)
number-from most word h =
    let value : ℕ = digits_value 10 word in
    cond-true (bytes_eq word (decimal value) && nat_le value most) (Some value) None
    (and_from (bytes_eq word (decimal value)) (nat_le value most) ((bytes_eq-Decides word (decimal value)).1 h.text) (le-leb value most h.high))

-- the word is no number where it isn't
pub number-none : (most : ℕ) (word : List ℕ) → (IsNumber most word (digits_value 10 word) → ⊥) → number_within most word ≡ None
number-none most word never =
    let value : ℕ = digits_value 10 word in
    cond-false (bytes_eq word (decimal value) && nat_le value most) (Some value) None
    (false_from_ne_true (bytes_eq word (decimal value) && nat_le value most) (λ e. never (found value e)))
  where
    found : (value : ℕ) → (bytes_eq word (decimal value) && nat_le value most) ≡ true → IsNumber most word value
    found value e =
        let parts = and_parts (bytes_eq word (decimal value)) (nat_le value most) e in
        record { text = (bytes_eq-Decides word (decimal value)).0 parts.0; high = leb-true value most parts.1 }

-- each number within the limit is spelled by its decimal text
pub number-spelled : (most number : ℕ) → most < 2 ^ 64 → number ≤ most → number_within most (decimal number) ≡ Some number
number-spelled most number small high =
    let value : digits_value 10 (decimal number) ≡ number = (decimal_is_IsNumeral number (omega arith)).1 in
    number-from most (decimal number) record { text = ap decimal (sym value); high = subst (λ n. n ≤ most) (sym value) high }
    ∙ ap Some value

-- Digits

-- a digit and its value
digit-in : (b : ℕ) → is_digit b ≡ true → IsInRange 48 57 b
digit-in b e = let parts = and_parts (nat_le 48 b) (nat_le b 57) e in (leb-true 48 b parts.0, leb-true b 57 parts.1)

-- what digits spell behind a number
after-digits : (n m : ℕ) (digits : List ℕ) → number_after n digits ≡ Some m → AllDigits 10 digits × (digits_value_after 10 n digits ≡ m)
after-digits n m [] e = (tt, cc)
after-digits n m (b ∷ bs) e =
    let some = cond_given (is_digit b) (number_after (n * 10 + (b - 48)) bs) m e in
    let range = digit-in b some.0 in
    let rest = after-digits (n * 10 + (b - 48)) m bs some.1 in
    let same : digit_value b ≡ b - 48 = omega (arith, digit_value_digit b range) in
    ((omega (arith, same, range), rest.0), ap (λ d. digits_value_after 10 (n * 10 + d) bs) same ∙ rest.1)
  where
    cond_given : (test : Bool) (answer : Option ℕ) (m : ℕ) → (if test then answer else None) ≡ Some m → (test ≡ true) × (answer ≡ Some m)
    cond_given true answer m e = (refl, e)
    cond_given false answer m e = absurd (none-some m e)

-- digits spell something
after-some : (n : ℕ) (digits : List ℕ) → AllDigits 10 digits → number_after n digits ≡ None → ⊥
after-some n [] all e = none-some n (sym e)
after-some n (b ∷ bs) all e =
    let range = digit_from_value b all.0 in
    let digit : is_digit b ≡ true = and_from (nat_le 48 b) (nat_le b 57) (le-leb 48 b range.0) (le-leb b 57 range.1) in
    after-some (n * 10 + (b - 48)) bs all.1 (sym (cond-true (is_digit b) (number_after (n * 10 + (b - 48)) bs) None digit) ∙ e)

digits-front : (front : List ℕ) (last : ℕ) → AllDigits 10 (front ++ last ∷ []) → AllDigits 10 front × IsInRange 48 57 last
digits-front [] last all = (tt, digit_from_value last all.0)
digits-front (b ∷ bs) last all = let rest = digits-front bs last all.1 in ((all.0, rest.0), rest.1)

digits-push : (front : List ℕ) (last : ℕ) → AllDigits 10 front → IsInRange 48 57 last → AllDigits 10 (front ++ last ∷ [])
digits-push [] last all range = (omega (arith, digit_value_digit last range, range), tt)
digits-push (b ∷ bs) last all range = (all.0, digits-push bs last all.1 range)

value-push : (n : ℕ) (front : List ℕ) (last : ℕ) → digits_value_after 10 n (front ++ last ∷ []) ≡ digits_value_after 10 n front * 10 + digit_value last
value-push n [] last = refl
value-push n (b ∷ bs) last = value-push (n * 10 + digit_value b) bs last

-- the first byte of more than one
first-kept : (front : List ℕ) (last : ℕ) → get_or front 0 0 ≡ 48 → get_or (front ++ last ∷ []) 0 0 ≡ 48
first-kept [] last e = absurd (omega (arith, e))
first-kept (b ∷ bs) last e = e

first-other : (front : List ℕ) (last : ℕ) → (get_or front 0 0 ≡ 48 → ⊥) → get_or (front ++ last ∷ []) 0 0 ≡ 48 → length (front ++ last ∷ []) ≡ 1
first-other [] last other e = refl
first-other (b ∷ bs) last other e = absurd (other e)

-- Words that are no number

-- what a number's text is
pub record IsSpelled (word : List ℕ) : Type 0 where
  pub few : digits_value 10 word < 2 ^ 64
  pub numeral : IsNumeral 10 word
  pub text : word ≡ decimal (digits_value 10 word)

spelled-from : (most : ℕ) (word : List ℕ) → most < 2 ^ 64 → IsNumber most word (digits_value 10 word) → IsSpelled word
spelled-from most word small h =
    let few : digits_value 10 word < 2 ^ 64 = omega (arith, h.high, small) in
    record { few = few; numeral = subst (IsNumeral 10) (sym h.text) (decimal_is_IsNumeral (digits_value 10 word) few).0; text = h.text }

unspelled : (word : List ℕ) → (IsSpelled word → ⊥) → None ≡ number_within most_long word
unspelled word never = sym (number-none most_long word (λ h. never (spelled-from most_long word (lit< tt) h)))

-- it has no byte
pub none-empty : (word : List ℕ) → length word ≡ 0 → None ≡ number_within most_long word
none-empty word none = unspelled word (λ h. omega (arith, h.numeral.0, none))

-- it has more than 20 bytes
pub none-long : (word front : List ℕ) (last : ℕ) → word ≡ front ++ last ∷ [] → 19 < length front → None ≡ number_within most_long word
none-long word front last is long =
    unspelled word (λ h.
    let most : 2 ^ 64 ≤ 10 ^ 20 = lit≤ tt in
    let size : length (decimal (digits_value 10 word)) ≤ 20 = length-decimal-le 20 (digits_value 10 word) (lit< tt) (omega (arith, h.few, most)) h.few in
    omega (arith, size, ap length h.text, ap length is, length-append front (last ∷ []), long))

-- it has a leading zero
pub none-zero : (word front : List ℕ) (last : ℕ) → word ≡ front ++ last ∷ [] → get_or front 0 0 ≡ 48 → None ≡ number_within most_long word
none-zero word front last is zero_first =
    unspelled word (λ h. lone front zero_first is (digits_value 10 word) h.few h.text (ap (λ l. get_or l 0 0) is ∙ first-kept front last zero_first))
  where
    lone : (front : List ℕ) → get_or front 0 0 ≡ 48 → word ≡ front ++ last ∷ [] → (n : ℕ) → n < 2 ^ 64 → word ≡ decimal n → get_or word 0 0 ≡ 48 → ⊥
    lone [] zero_first is n few text e = omega (arith, zero_first)
    lone (b ∷ bs) zero_first is zero few text e = omega (arith, ap length (decimal_digit 0 (lit< tt)), ap length text, ap length is, length-append bs (last ∷ []))
    lone (b ∷ bs) zero_first is (suc m) few text e = omega (arith, first_decimal (suc m) (omega arith) few, ap (λ l. get_or l 0 0) text, e)

-- a byte before the last is no digit
pub none-front : (word front : List ℕ) (last : ℕ) → word ≡ front ++ last ∷ [] → None ≡ number_after 0 front → None ≡ number_within most_long word
none-front word front last is none =
    unspelled word (λ h. after-some 0 front (digits-front front last (subst (AllDigits 10) is h.numeral.1)).0 (sym none))

value-of : (word front : List ℕ) (last tens : ℕ) → word ≡ front ++ last ∷ [] → Some tens ≡ number_after 0 front → IsInRange 48 57 last → digits_value 10 word ≡ tens * 10 + (last - 48)
value-of word front last tens is front_is range =
    let before = (after-digits 0 tens front (sym front_is)).1 in
    let digit : digit_value last ≡ last - 48 = omega (arith, digit_value_digit last range) in
    ap (digits_value 10) is ∙ (value-push 0 front last ∙ (ap (λ n. n * 10 + digit_value last) before ∙ ap (λ d. tens * 10 + d) digit))

-- the last byte is no digit, or the number has more than 64 bits; else there is a number
pub number-last : (word front : List ℕ) (last tens : ℕ) (result : Option ℕ) → word ≡ front ++ last ∷ [] → (get_or front 0 0 ≡ 48 → ⊥) → Some tens ≡ number_after 0 front →
    SomeIff result ((48 ≤ last) × (last ≤ 57) × (tens * 10 + (last - 48) < 2 ^ 64)) (tens * 10 + (last - 48)) → result ≡ number_within most_long word
number-last word front last tens None is other front_is never =
    unspelled word (λ h.
    let range = (digits-front front last (subst (AllDigits 10) is h.numeral.1)).1 in
    never (range.0, range.1, subst (λ n. n < 2 ^ 64) (value-of word front last tens is front_is range) h.few))
number-last word front last tens (Some number) is other front_is h =
    let range : IsInRange 48 57 last = (h.0.0, h.0.1) in
    let value = value-of word front last tens is front_is range in
    let few : digits_value 10 word < 2 ^ 64 = subst (λ n. n < 2 ^ 64) (sym value) h.0.2 in
    let own : IsNumeralModel (AllDigits 10) (digits_value 10) = numerals_by_value (AllDigits 10) tells_digits in
    let all : AllDigits 10 word = subst (AllDigits 10) (sym is) (digits-push front last (after-digits 0 tens front (sym front_is)).0 range) in
    let some : 0 < length word = omega (arith, ap length is, length-append front (last ∷ [])) in
    let text : decimal (digits_value 10 word) ≡ word =
    decimal-digits_value own word all some (λ e. ap length is ∙ first-other front last other (sym (ap (λ l. get_or l 0 0) is) ∙ e)) few in
    ap Some (h.1 ∙ sym value) ∙ sym (number-from most_long word record { text = sym text; high = lt-most few })
  where
    lt-most : {n : ℕ} → n < 2 ^ 64 → n ≤ most_long
    lt-most {n} h = omega (arith, h)

-- Numbers of 32 bits

-- where there is none of 64 bits
pub short-none : (word : List ℕ) → None ≡ number_within most_long word → None ≡ number_within most_short word
short-none word none =
    sym (number-none most_short word (λ h.
    none-some (digits_value 10 word) (none ∙ number-from most_long word record { text = h.text; high = omega (arith, h.high) })))

-- where it has more
pub short-high : (word : List ℕ) (number : ℕ) → Some number ≡ number_within most_long word → most_short < number → None ≡ number_within most_short word
short-high word number is more =
    sym (number-none most_short word (λ h.
    let same : Some number ≡ Some (digits_value 10 word) = is ∙ number-from most_long word record { text = h.text; high = omega (arith, h.high) } in
    omega (arith, same_Some number (digits_value 10 word) same, h.high, more)))

-- where it hasn't
pub short-found : (word : List ℕ) (number : ℕ) → Some number ≡ number_within most_long word → number ≤ most_short → Some number ≡ number_within most_short word
short-found word number is few =
    let h = number-is most_long word number (sym is) in
    let small : number < 2 ^ 64 = omega (arith, few) in
    sym (ap (number_within most_short) h.text ∙ number-spelled most_short number (lit< tt) few)
