-- The bytes of a source text by what they are for (IEEE 1364-2001, clauses 2.2 to 2.7).
use Rattle.std.specs.Prelude.{◌≡◌, ℕ, ◌==◌, nat_le, Bool, true, false, ◌&&◌, ◌||◌, not, List, [], ◌∷◌}

-- space, tab, line feed, carriage return, form feed
abbrev pub is_blank : ℕ → Bool
is_blank b = (b == 32) || (b == 9) || (b == 10) || (b == 13) || (b == 12)

-- a letter or `_`
abbrev pub is_letter : ℕ → Bool
is_letter b = (nat_le 65 b && nat_le b 90) || (nat_le 97 b && nat_le b 122) || (b == 95)

abbrev pub is_digit : ℕ → Bool
is_digit b = nat_le 48 b && nat_le b 57

-- a letter, a digit, `_` or `$`
abbrev pub goes_in_name : ℕ → Bool
goes_in_name b = is_letter b || is_digit b || (b == 36)

-- a decimal digit or `_`
abbrev pub goes_in_decimal : ℕ → Bool
goes_in_decimal b = is_digit b || (b == 95)

-- any byte but a line feed
abbrev pub goes_in_line : ℕ → Bool
goes_in_line b = not (b == 10)

-- any byte up to 127 but a line feed
abbrev pub goes_in_directive : ℕ → Bool
goes_in_directive b = not (b == 10) && nat_le b 127

-- Words on bytes in a row

-- whether all bytes pass a test
abbrev pub each : (ℕ → Bool) → List ℕ → Bool
each p [] = true
each p (b ∷ bs) = p b && each p bs

-- whether there is a first byte that passes a test, and all others pass another
abbrev pub begins_and_goes_on : (ℕ → Bool) → (ℕ → Bool) → List ℕ → Bool
begins_and_goes_on first others [] = false
begins_and_goes_on first others (b ∷ bs) = first b && each others bs

-- no byte that passes the test comes next
abbrev pub Stops : (ℕ → Bool) → List ℕ → Type 0
Stops p [] = Unit {0}
Stops p (b ∷ bs) = p b ≡ false
