-- A number on the command line (the form is this program's own).
use Rattle.std.specs.Prelude.{ℕ, List, [], ◌∷◌, Bool, true, not, ◌&&◌, Option, Some, None, nat_eq, nat_le, if◌then◌else◌}
use Rattle.std.specs.Fmt.{decimal}
use Rattle.std.specs.Str.{bytes_eq}
use Rattle.std.specs.Str.Parse.{digits_value}

-- the number from `least` to `most` that the word is the decimal text of; so it has no sign and no leading zero
unfoldable pub number_between : ℕ → ℕ → List ℕ → Option ℕ
number_between least most word = let number = digits_value 10 word in
    if bytes_eq word (decimal number) && (nat_le least number && nat_le number most) then Some number else None

-- no sign stands in front, and no zero before another byte
abbrev pub is_plain : List ℕ → Bool
is_plain [] = true
is_plain (only ∷ []) = not (nat_eq only 43)
is_plain (first ∷ second ∷ rest) = not (nat_eq first 43) && not (nat_eq first 48)
