-- How a number is spelled, and what value it has (IEEE 1364-2001, clause 2.5).
use Rattle.std.specs.Prelude.{◌≡◌, ℕ, ◌+◌, ◌-◌, ◌*◌, ◌^◌, ◌==◌, nat_le, Bool, true, false, ◌&&◌, ◌||◌, not, List, [], ◌∷◌, ◌++◌, length, take, replicate, Option, Some, None, if◌then◌else◌}
use Rattle.four_value.specs.declared.logic.Bit.{Bit}
use Rattle.four_value.specs.declared.logic.Bit.TheVariants.{Zero, X, Z}
use Rattle.four_value.specs.Values.{LogicValue, bits_of}
use Rattle.v_tree.specs.declared.token.NumberForm.{NumberForm}
use Rattle.v_tree.specs.declared.token.NumberForm.TheVariants.{Plain, Unsized, Sized, UnsizedSigned, SizedSigned}
use Rattle.v_scan.specs.declared.bytes.Base.{Base}
use Rattle.v_scan.specs.declared.bytes.Base.TheVariants.{Binary, Octal, Decimal, Hexadecimal}
use Rattle.v_scan.specs.Bytes.{is_blank, is_digit, goes_in_decimal, each, begins_and_goes_on}

-- Spelling

-- the base that a letter names
abbrev pub base_of : ℕ → Option Base
base_of b =
    if (b == 98) || (b == 66) then Some Binary
    else (if (b == 111) || (b == 79) then Some Octal
    else (if (b == 100) || (b == 68) then Some Decimal
    else (if (b == 104) || (b == 72) then Some Hexadecimal
    else None)))

-- `x`, `z` or `?`
abbrev pub is_unknown_digit : ℕ → Bool
is_unknown_digit b = (b == 120) || (b == 88) || (b == 122) || (b == 90) || (b == 63)

-- a digit of a number of this base; in a decimal number an unknown digit stands alone
abbrev pub is_digit_of : Base → ℕ → Bool
is_digit_of Binary b = (nat_le 48 b && nat_le b 49) || is_unknown_digit b
is_digit_of Octal b = (nat_le 48 b && nat_le b 55) || is_unknown_digit b
is_digit_of Decimal b = is_digit b
is_digit_of Hexadecimal b = is_digit b || (nat_le 65 b && nat_le b 70) || (nat_le 97 b && nat_le b 102) || is_unknown_digit b

-- a digit or `_`
abbrev pub goes_in_digits : Base → ℕ → Bool
goes_in_digits base b = is_digit_of base b || (b == 95)

-- an unknown digit of a decimal number
abbrev pub stands_alone : Base → ℕ → Bool
stands_alone Binary b = false
stands_alone Octal b = false
stands_alone Decimal b = is_unknown_digit b
stands_alone Hexadecimal b = false

abbrev pub is_empty : List ℕ → Bool
is_empty [] = true
is_empty (b ∷ bs) = false

-- digits of this base with `_` between them, or one unknown digit alone
abbrev pub is_digits : Base → List ℕ → Bool
is_digits base [] = false
is_digits base (b ∷ bs) = (is_digit_of base b && each (goes_in_digits base) bs) || (stands_alone base b && is_empty bs)

-- nothing, or `s` in either case
abbrev pub is_sign : List ℕ → Bool
is_sign [] = true
is_sign (b ∷ bs) = ((b == 115) || (b == 83)) && is_empty bs

-- A number is a decimal number, or a size with a gap behind it (or neither), `'`, and what stands behind that.
-- `'` alone, with a size or without, begins a number that has no value.
pub data Number : Type 0 where
  Plain_decimal : (digits : List ℕ) → Number
  Unfinished : (size gap : List ℕ) → Number
  Based : (size gap sign : List ℕ) (letter : ℕ) (base : Base) (space digits : List ℕ) → Number

abbrev pub number_bytes : Number → List ℕ
number_bytes (Plain_decimal digits) = digits
number_bytes (Unfinished size gap) = size ++ (gap ++ 39 ∷ [])
number_bytes (Based size gap sign letter base space digits) = size ++ (gap ++ 39 ∷ (sign ++ letter ∷ (space ++ digits)))

-- a decimal number with blanks behind it, or nothing
abbrev pub IsSize : List ℕ → List ℕ → Type 0
IsSize [] gap = gap ≡ []
IsSize (b ∷ size) gap = (is_digit b ≡ true) × (each goes_in_decimal size ≡ true) × (each is_blank gap ≡ true)

abbrev pub IsNumber : Number → Type 0
IsNumber (Plain_decimal digits) = begins_and_goes_on is_digit goes_in_decimal digits ≡ true
IsNumber (Unfinished size gap) = IsSize size gap
IsNumber (Based size gap sign letter base space digits) =
    IsSize size gap × (is_sign sign ≡ true) × (base_of letter ≡ Some base) × (each is_blank space ≡ true) × (is_digits base digits ≡ true)

-- Values

-- the number that decimal digits spell behind a number, `_` left out
abbrev pub decimal_behind : ℕ → List ℕ → ℕ
decimal_behind n [] = n
decimal_behind n (b ∷ bs) = if b == 95 then decimal_behind n bs else decimal_behind (10 * n + (b - 48)) bs

abbrev pub decimal_number : List ℕ → ℕ
decimal_number digits = decimal_behind 0 digits

-- how many bits a digit spells
abbrev pub bits_per_digit : Base → ℕ
bits_per_digit Binary = 1
bits_per_digit Octal = 3
bits_per_digit Decimal = 0
bits_per_digit Hexadecimal = 4

-- the number that a digit spells
abbrev pub digit_number : ℕ → ℕ
digit_number b = if nat_le b 57 then b - 48 else (if nat_le b 70 then b - 55 else b - 87)

-- `?` is z
abbrev pub unknown_bit : ℕ → Bit
unknown_bit b = if (b == 120) || (b == 88) then X else Z

-- the bits that a digit spells, the least significant first
abbrev pub digit_bits : Base → ℕ → LogicValue
digit_bits base b =
    if b == 95 then []
    else (if is_unknown_digit b then replicate (bits_per_digit base) (unknown_bit b)
    else bits_of (bits_per_digit base) (digit_number b))

-- the bits that digits spell; the last digit has the least significant ones
abbrev pub digits_bits : Base → List ℕ → LogicValue
digits_bits base [] = []
digits_bits base (b ∷ bs) = digits_bits base bs ++ digit_bits base b

-- what digits are extended by on the left: x or z where the leftmost digit is unknown, else 0
abbrev pub fill_of : List ℕ → Bit
fill_of [] = Zero
fill_of (b ∷ bs) = if is_unknown_digit b then unknown_bit b else Zero

-- the bits at a width: extended on the left, or without the surplus bits on the left
abbrev pub at_width : ℕ → Bit → LogicValue → LogicValue
at_width width fill bits = take width (bits ++ replicate width fill)

-- the size that is spelled, 1 to 128; 32 where there is none
abbrev pub width_of : List ℕ → Option ℕ
width_of [] = Some 32
width_of (b ∷ size) = let n = decimal_number (b ∷ size) in if nat_le 1 n && nat_le n 128 then Some n else None

-- the value of decimal digits, below 2 to the 128
abbrev pub decimal_value : ℕ → List ℕ → Option LogicValue
decimal_value width [] = None
decimal_value width (b ∷ bs) =
    if is_unknown_digit b then Some (replicate width (unknown_bit b))
    else (let n = decimal_number (b ∷ bs) in if nat_le (2 ^ 128) n then None else Some (bits_of width n))

-- the value of digits that spell at most 256 bits
abbrev pub coded_value : Base → ℕ → List ℕ → Option LogicValue
coded_value base width digits = let bits = digits_bits base digits in if nat_le (length bits) 256 then Some (at_width width (fill_of digits) bits) else None

abbrev pub digits_value : Base → ℕ → List ℕ → Option LogicValue
digits_value Binary width digits = coded_value Binary width digits
digits_value Octal width digits = coded_value Octal width digits
digits_value Decimal width digits = decimal_value width digits
digits_value Hexadecimal width digits = coded_value Hexadecimal width digits

-- how a number with a base is written
abbrev pub form_of : (size : List ℕ) (signed : Bool) → NumberForm
form_of [] false = Unsized
form_of [] true = UnsizedSigned
form_of (b ∷ size) false = Sized
form_of (b ∷ size) true = SizedSigned

abbrev pub value_in : Option ℕ → Base → List ℕ → Option LogicValue
value_in None base digits = None
value_in (Some width) base digits = digits_value base width digits

-- a value, and how it is written
abbrev pub Written : Type 0
Written = LogicValue × NumberForm

abbrev pub written_as : NumberForm → Option LogicValue → Option Written
written_as form None = None
written_as form (Some value) = Some (value, form)

-- a decimal number alone is at most 4,294,967,295, of 32 bits
abbrev pub plain_value : List ℕ → Option Written
plain_value digits = let n = decimal_number digits in if nat_le n 4294967295 then Some (bits_of 32 n, Plain) else None

-- the value of a number; none where it is refused
abbrev pub value_of : Number → Option Written
value_of (Plain_decimal digits) = plain_value digits
value_of (Unfinished size gap) = None
value_of (Based size gap sign letter base space digits) = written_as (form_of size (not (is_empty sign))) (value_in (width_of size) base digits)
