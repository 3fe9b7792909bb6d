-- Names that are put together of words are words (nothing of the language).
use Rattle.std.proofs.Common.{◌≡◌, ℕ, zero, suc, ◌+◌, ◌≤◌, Bool, true, false, List, [], ◌∷◌, ◌++◌, arith}
use Rattle.std.specs.Prelude.{◌/◌, ◌%◌, ◌==◌, nat_lt, decimal, if◌then◌else◌}
use Rattle.std.specs.Fmt.{digit_glyph, digits_onto, digits}
use Rattle.vf_base.specs.Lists.{AllHold}
use Rattle.v_design.specs.WellFormed.{ends_word, IsOneWord}
use Rattle.flat_laws.specs.Numbered.{AllHold-append}
use Rattle.flat_laws.specs.Names.Spelled.{no-word-end}

pub words-append : (one other : List ℕ) → IsOneWord one → IsOneWord other → IsOneWord (one ++ other)
words-append one other h k = AllHold-append (λ (byte : ℕ). ends_word byte ≡ false) one other h k

-- Numerals

glyph-high : (d : ℕ) → 48 ≤ digit_glyph false d
glyph-high d = by_test (nat_lt d 10)
  where
    by_test : (test : Bool) → 48 ≤ (if test then 48 + d else (if false then 55 + d else 87 + d))
    by_test true = omega arith
    by_test false = omega arith

glyph-word : (d : ℕ) → ends_word (digit_glyph false d) ≡ false
glyph-word d =
    let high = glyph-high d in
    no-word-end (digit_glyph false d) (λ e. omega (arith, high, e)) (λ e. omega (arith, high, e)) (λ e. omega (arith, high, e)) (λ e. omega (arith, high, e))

digits-word : (count n : ℕ) (behind : List ℕ) → IsOneWord behind → IsOneWord (digits_onto count 10 false n behind)
digits-word zero n behind h = h
digits-word (suc count) n behind h =
    let more = digit_glyph false (n % 10) ∷ behind in
    let here : IsOneWord more = (glyph-word (n % 10), h) in
    by_test (n / 10 == 0) here (digits-word count (n / 10) more here)
  where
    by_test : (test : Bool) → IsOneWord (digit_glyph false (n % 10) ∷ behind) → IsOneWord (digits_onto count 10 false (n / 10) (digit_glyph false (n % 10) ∷ behind)) →
        IsOneWord (if test then digit_glyph false (n % 10) ∷ behind else digits_onto count 10 false (n / 10) (digit_glyph false (n % 10) ∷ behind))
    by_test true here later = here
    by_test false here later = later

-- the digits of a number are a word
pub decimal-word : (n : ℕ) → IsOneWord (decimal n)
unfolding digits
decimal-word n = digits-word 64 n [] tt
