-- Which bytes spell a token, and which token (IEEE 1364-2001, clauses 2.4 to 2.7).
use Rattle.std.specs.Prelude.{◌≡◌, ℕ, ◌≤◌, ◌==◌, Bool, true, false, ◌&&◌, not, List, [], ◌∷◌, ◌++◌, length, codes, Option, Some, None}
use Rattle.v_tree.specs.declared.token.TokenKind.{TokenKind}
use Rattle.v_tree.specs.declared.token.TokenKind.TheVariants as kinds
use Rattle.v_tree.specs.declared.token.Mark.{Mark}
use Rattle.v_tree.specs.declared.token.Mark.TheVariants.{CaseEqual, CaseNotEqual, ArithmeticShiftLeft, ArithmeticShiftRight, LogicalAnd, LogicalOr, Equal, NotEqual, LessEqual, GreaterEqual}
use Rattle.v_tree.specs.declared.token.Mark.TheVariants.{ShiftLeft, ShiftRight, Nand, Nor, TildeCaret, CaretTilde, Plus, Minus, Star, Slash, Percent, Bang, Tilde, And, Or, Caret, Less, Greater}
use Rattle.v_tree.specs.declared.token.Mark.TheVariants.{Assign, Question, Colon, Semicolon, Comma, Dot, LeftParen, RightParen, LeftBracket, RightBracket, LeftBrace, RightBrace, Hash, At}
use Rattle.v_scan.specs.Bytes.{is_letter, goes_in_name, begins_and_goes_on}
use Rattle.v_scan.specs.Numbers.{Number, number_bytes, IsNumber, Written, value_of}

-- the bytes of a mark
abbrev pub mark_bytes : Mark → List ℕ
mark_bytes CaseEqual = codes "==="
mark_bytes CaseNotEqual = codes "!=="
mark_bytes ArithmeticShiftLeft = codes "<<<"
mark_bytes ArithmeticShiftRight = codes ">>>"
mark_bytes LogicalAnd = codes "&&"
mark_bytes LogicalOr = codes "||"
mark_bytes Equal = codes "=="
mark_bytes NotEqual = codes "!="
mark_bytes LessEqual = codes "<="
mark_bytes GreaterEqual = codes ">="
mark_bytes ShiftLeft = codes "<<"
mark_bytes ShiftRight = codes ">>"
mark_bytes Nand = codes "~&"
mark_bytes Nor = codes "~|"
mark_bytes TildeCaret = codes "~^"
mark_bytes CaretTilde = codes "^~"
mark_bytes Plus = codes "+"
mark_bytes Minus = codes "-"
mark_bytes Star = codes "*"
mark_bytes Slash = codes "/"
mark_bytes Percent = codes "%"
mark_bytes Bang = codes "!"
mark_bytes Tilde = codes "~"
mark_bytes And = codes "&"
mark_bytes Or = codes "|"
mark_bytes Caret = codes "^"
mark_bytes Less = codes "<"
mark_bytes Greater = codes ">"
mark_bytes Assign = codes "="
mark_bytes Question = codes "?"
mark_bytes Colon = codes ":"
mark_bytes Semicolon = codes ";"
mark_bytes Comma = codes ","
mark_bytes Dot = codes "."
mark_bytes LeftParen = codes "("
mark_bytes RightParen = codes ")"
mark_bytes LeftBracket = codes "["
mark_bytes RightBracket = codes "]"
mark_bytes LeftBrace = codes "{"
mark_bytes RightBrace = codes "}"
mark_bytes Hash = codes "#"
mark_bytes At = codes "@"

-- what stands in a string: no line feed, and no quote but behind a backslash, which takes the byte behind it with it
abbrev pub is_inside : (behind_backslash : Bool) → List ℕ → Bool
is_inside true [] = false
is_inside false [] = true
is_inside true (b ∷ bs) = not (b == 10) && is_inside false bs
is_inside false (b ∷ bs) = not (b == 34) && (not (b == 10) && is_inside (b == 92) bs)

-- a word of the text: a name, a system name (without its `$`), a string (without its quotes), a mark, a number
pub data Word : Type 0 where
  Named : (name : List ℕ) → Word
  System : (name : List ℕ) → Word
  Quoted : (inside : List ℕ) → Word
  Marked : (mark : Mark) → Word
  Numeral : (number : Number) → Word

abbrev pub word_bytes : Word → List ℕ
word_bytes (Named name) = name
word_bytes (System name) = 36 ∷ name
word_bytes (Quoted inside) = 34 ∷ (inside ++ 34 ∷ [])
word_bytes (Marked mark) = mark_bytes mark
word_bytes (Numeral number) = number_bytes number

abbrev pub IsWord : Word → Type 0
IsWord (Named name) = begins_and_goes_on is_letter goes_in_name name ≡ true
IsWord (System name) = begins_and_goes_on goes_in_name goes_in_name name ≡ true
IsWord (Quoted inside) = is_inside false inside ≡ true
IsWord (Marked mark) = Unit {0}
IsWord (Numeral number) = IsNumber number

-- no longer word stands in its place
abbrev pub IsLongest : Word → List ℕ → Type 0
IsLongest word rest = (other : Word) (more : List ℕ) → IsWord other → word_bytes other ++ more ≡ word_bytes word ++ rest → length (word_bytes other) ≤ length (word_bytes word)

-- the kind of a number's token, if it has a value
abbrev pub number_kind : Option Written → Option TokenKind
number_kind None = None
number_kind (Some written) = Some (kinds.Number written.0 written.1)

-- the token that a word is; none where it is a number that is refused
abbrev pub kind_of : Word → Option TokenKind
kind_of (Named name) = Some (kinds.Word name)
kind_of (System name) = Some (kinds.System (36 ∷ name))
kind_of (Quoted inside) = Some kinds.Str
kind_of (Marked mark) = Some (kinds.Mark mark)
kind_of (Numeral number) = number_kind (value_of number)
