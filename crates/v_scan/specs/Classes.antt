-- The bytes of a row by their class, and the rest of a text.
use Rattle.std.specs.Prelude.{◌≡◌, ℕ, Bool, List, ◌++◌}
use Rattle.v_scan.specs.declared.bytes.Class.{Class}
use Rattle.v_scan.specs.declared.bytes.Class.TheVariants.{Blank, Name, Decimal, Digits, Line, Directive}
use Rattle.v_scan.specs.Bytes.{is_blank, goes_in_name, goes_in_decimal, goes_in_line, goes_in_directive}
use Rattle.v_scan.specs.Numbers.{goes_in_digits}

abbrev pub in_class : Class → ℕ → Bool
in_class Blank = is_blank
in_class Name = goes_in_name
in_class Decimal = goes_in_decimal
in_class (Digits base) = goes_in_digits base
in_class Line = goes_in_line
in_class Directive = goes_in_directive

-- a text ends with these bytes
pub record IsRest (text rest : List ℕ) : Type 0 where
  pub front : List ℕ
  pub whole : text ≡ front ++ rest
