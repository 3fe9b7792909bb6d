-- What stands at the front of a text, read from the left.
use Rattle.std.specs.Prelude.{◌≡◌, ℕ, ◌==◌, Bool, true, false, ◌&&◌, ◌||◌, not, List, [], ◌∷◌, ◌++◌, drop, codes, Option, Some, None, if◌then◌else◌}
use Rattle.std.specs.Borrow.{Bor}
use Rattle.vf_base.specs.declared.ids.Place.{Place}
use Rattle.v_tree.specs.declared.token.TokenKind.{TokenKind}
use Rattle.v_tree.specs.declared.token.Mark.{Mark}
use Rattle.v_tree.specs.declared.token.Mark.TheVariants.{CaseEqual, CaseNotEqual, ArithmeticShiftLeft, ArithmeticShiftRight, LogicalAnd, LogicalOr, Equal, NotEqual, LessEqual, GreaterEqual}
use Rattle.v_tree.specs.declared.token.Mark.TheVariants.{ShiftLeft, ShiftRight, Nand, Nor, TildeCaret, CaretTilde, Plus, Minus, Star, Slash, Percent, Bang, Tilde, And, Or, Caret, Less, Greater}
use Rattle.v_tree.specs.declared.token.Mark.TheVariants.{Assign, Question, Colon, Semicolon, Comma, Dot, LeftParen, RightParen, LeftBracket, RightBracket, LeftBrace, RightBrace, Hash, At}
use Rattle.v_tree.specs.Tokens.{SourceToken}
use Rattle.v_scan.specs.declared.bytes.Base.{Base}
use Rattle.v_scan.specs.declared.pieces.Part.{Part}
use Rattle.v_scan.specs.declared.pieces.Part.TheVariants as parts
use Rattle.v_scan.specs.declared.fault.ScanFault.{ScanFault}
use Rattle.v_scan.specs.declared.fault.ScanFault.TheVariants.{BadByte, BadNumber, Unclosed, TooLong, NoMemory}
use Rattle.v_scan.specs.Bytes.{is_blank, is_letter, is_digit, goes_in_name, goes_in_decimal, goes_in_line, goes_in_directive}
use Rattle.v_scan.specs.Numbers.{Number, Plain_decimal, Unfinished, Based, base_of, is_digit_of, goes_in_digits, stands_alone, is_empty, Written, value_of}
use Rattle.v_scan.specs.Words.{Word, Named, System, Quoted, Marked, Numeral, word_bytes, mark_bytes, kind_of}
use Rattle.v_scan.specs.Texts.{Piece, Blank, LineComment, BlockComment, Timescale, Token, piece_bytes, IsPiece, ArePieces, spelled, leads_after, place_behind, tokens_from, closes, begins_comment}
use Rattle.v_scan.specs.Texts.{BeginsRefused, BeginsUnclosed, BeginsNothing}

-- the bytes at the front that pass a test
abbrev pub front_while : (ℕ → Bool) → List ℕ → List ℕ
front_while p [] = []
front_while p (b ∷ bs) = if p b then b ∷ front_while p bs else []

-- the bytes behind those
abbrev pub back_while : (ℕ → Bool) → List ℕ → List ℕ
back_while p [] = []
back_while p (b ∷ bs) = if p b then back_while p bs else b ∷ bs

abbrev pub starts : List ℕ → List ℕ → Bool
starts [] text = true
starts (m ∷ ms) [] = false
starts (m ∷ ms) (b ∷ bs) = (b == m) && starts ms bs

-- Numbers

abbrev pub is_sign_byte : ℕ → Bool
is_sign_byte b = (b == 115) || (b == 83)

abbrev pub sign_at : List ℕ → List ℕ
sign_at [] = []
sign_at (b ∷ bs) = if is_sign_byte b then b ∷ [] else []

abbrev pub behind_sign : List ℕ → List ℕ
behind_sign [] = []
behind_sign (b ∷ bs) = if is_sign_byte b then bs else b ∷ bs

abbrev pub digits_at : Base → List ℕ → List ℕ
digits_at base [] = []
digits_at base (b ∷ bs) =
    if is_digit_of base b then b ∷ front_while (goes_in_digits base) bs else (if stands_alone base b then b ∷ [] else [])

abbrev pub behind_digits : Base → List ℕ → List ℕ
behind_digits base [] = []
behind_digits base (b ∷ bs) = if is_digit_of base b then back_while (goes_in_digits base) bs else (if stands_alone base b then bs else b ∷ bs)

-- what stands behind the quote of a number, and the bytes behind that
pub data Tail : Type 0 where
  NoDigits : Tail
  Digits : (sign : List ℕ) (letter : ℕ) (base : Base) (space digits back : List ℕ) → Tail

abbrev pub tail_with : (sign : List ℕ) (letter : ℕ) (base : Base) (space digits back : List ℕ) → Tail
tail_with sign letter base space [] back = NoDigits
tail_with sign letter base space (b ∷ digits) back = Digits sign letter base space (b ∷ digits) back

abbrev pub tail_behind : (sign : List ℕ) (letter : ℕ) → Option Base → List ℕ → Tail
tail_behind sign letter None after = NoDigits
tail_behind sign letter (Some base) after =
    tail_with sign letter base (front_while is_blank after) (digits_at base (back_while is_blank after)) (behind_digits base (back_while is_blank after))

abbrev pub tail_from : (sign : List ℕ) → List ℕ → Tail
tail_from sign [] = NoDigits
tail_from sign (b ∷ after) = tail_behind sign b (base_of b) after

abbrev pub tail_at : List ℕ → Tail
tail_at tail = tail_from (sign_at tail) (behind_sign tail)

-- a number, and the bytes behind it
abbrev pub Numbered : Type 0
Numbered = Number × List ℕ

abbrev pub number_with : (size gap tail : List ℕ) → Tail → Numbered
number_with size gap tail NoDigits = (Unfinished size gap, tail)
number_with size gap tail (Digits sign letter base space digits back) = (Based size gap sign letter base space digits, back)

abbrev pub number_behind : (size after gap : List ℕ) → List ℕ → Numbered
number_behind size after gap [] = (Plain_decimal size, after)
number_behind size after gap (b ∷ tail) = if b == 39 then number_with size gap tail (tail_at tail) else (Plain_decimal size, after)

abbrev pub number_after : (size after : List ℕ) → Numbered
number_after size after = number_behind size after (front_while is_blank after) (back_while is_blank after)

unfoldable pub number_at : List ℕ → Numbered
number_at text = number_after (front_while goes_in_decimal text) (back_while goes_in_decimal text)

-- what the code keeps of the tail of a number
pub record IsTail (tail : List ℕ) (signed : Bool) (base : Base) (digits back : List ℕ) : Type 0 where
  pub sign : List ℕ
  pub letter : ℕ
  pub space : List ℕ
  pub is : tail_at tail ≡ Digits sign letter base space digits back
  pub signed_is : signed ≡ not (is_empty sign)

-- Strings, comments and marks

abbrev pub with_first : ℕ → Option (List ℕ) → Option (List ℕ)
with_first b None = None
with_first b (Some bs) = Some (b ∷ bs)

-- a string's inside, up to its closing quote
abbrev pub up_to_quote : (behind_backslash : Bool) → List ℕ → Option (List ℕ)
up_to_quote escaped [] = None
up_to_quote true (b ∷ bs) = if b == 10 then None else with_first b (up_to_quote false bs)
up_to_quote false (b ∷ bs) = if b == 34 then Some [] else (if b == 10 then None else with_first b (up_to_quote (b == 92) bs))

-- the bytes behind a string's closing quote
abbrev pub after_quote : (behind_backslash : Bool) → List ℕ → Option (List ℕ)
after_quote escaped [] = None
after_quote true (b ∷ bs) = if b == 10 then None else after_quote false bs
after_quote false (b ∷ bs) = if b == 34 then Some bs else (if b == 10 then None else after_quote (b == 92) bs)

-- a comment's inside, up to its end
abbrev pub up_to_close : List ℕ → Option (List ℕ)
up_to_close [] = None
up_to_close (b ∷ bs) = if closes (b ∷ bs) then Some [] else with_first b (up_to_close bs)

abbrev pub behind_two : List ℕ → List ℕ
behind_two [] = []
behind_two (b ∷ []) = []
behind_two (b ∷ c ∷ rest) = rest

-- the bytes behind a comment's end
abbrev pub after_close : List ℕ → Option (List ℕ)
after_close [] = None
after_close (b ∷ bs) = if closes (b ∷ bs) then Some (behind_two (b ∷ bs)) else after_close bs

-- all marks, the longest first
abbrev pub marks : List Mark
marks =
    CaseEqual ∷ CaseNotEqual ∷ ArithmeticShiftLeft ∷ ArithmeticShiftRight
    ∷ LogicalAnd ∷ LogicalOr ∷ Equal ∷ NotEqual ∷ LessEqual ∷ GreaterEqual ∷ ShiftLeft ∷ ShiftRight ∷ Nand ∷ Nor ∷ TildeCaret ∷ CaretTilde
    ∷ Plus ∷ Minus ∷ Star ∷ Slash ∷ Percent ∷ Bang ∷ Tilde ∷ And ∷ Or ∷ Caret ∷ Less ∷ Greater ∷ Assign ∷ Question ∷ Colon ∷ Semicolon ∷ Comma ∷ Dot
    ∷ LeftParen ∷ RightParen ∷ LeftBracket ∷ RightBracket ∷ LeftBrace ∷ RightBrace ∷ Hash ∷ At ∷ []

-- the marks whose byte begins no longer mark
abbrev pub single_marks : List Mark
single_marks =
    Plus ∷ Minus ∷ Star ∷ Slash ∷ Percent ∷ Question ∷ Colon ∷ Semicolon ∷ Comma ∷ Dot ∷ LeftParen ∷ RightParen ∷ LeftBracket ∷ RightBracket ∷ LeftBrace ∷ RightBrace ∷ Hash ∷ At ∷ []

-- the first of these that stands at the front
abbrev pub first_mark : List Mark → List ℕ → Option Mark
first_mark [] text = None
first_mark (m ∷ ms) text = if starts (mark_bytes m) text then Some m else first_mark ms text

-- Words

-- what kind of word a byte begins
pub data Sort : Type 0 where
  AsName AsSystem AsString AsNumber AsMark : Sort

abbrev pub sort_of : ℕ → Sort
sort_of b =
    if is_letter b then AsName
    else (if b == 36 then AsSystem
    else (if b == 34 then AsString
    else (if is_digit b || (b == 39) then AsNumber
    else AsMark)))

abbrev pub system_of : List ℕ → Option Word
system_of [] = None
system_of (b ∷ name) = Some (System (b ∷ name))

abbrev pub quoted_of : Option (List ℕ) → Option Word
quoted_of None = None
quoted_of (Some inside) = Some (Quoted inside)

abbrev pub marked_of : Option Mark → Option Word
marked_of None = None
marked_of (Some mark) = Some (Marked mark)

abbrev pub word_by : Sort → ℕ → List ℕ → Option Word
word_by AsName b rest = Some (Named (b ∷ front_while goes_in_name rest))
word_by AsSystem b rest = system_of (front_while goes_in_name rest)
word_by AsString b rest = quoted_of (up_to_quote false rest)
word_by AsNumber b rest = Some (Numeral (number_at (b ∷ rest)).0)
word_by AsMark b rest = marked_of (first_mark marks (b ∷ rest))

-- the word at the front, if there is one
unfoldable pub word_at : ℕ → List ℕ → Option Word
word_at b rest = word_by (sort_of b) b rest

-- Pieces

-- what stands at the front of a text
pub data Front : Type 0 where
  Stands : (piece : Piece) → Front
  Refused : Front
  Open : Front
  Nothing : Front

abbrev pub block_of : Option (List ℕ) → Front
block_of None = Open
block_of (Some body) = Stands (BlockComment body)

-- the comment whose first byte these bytes follow
abbrev pub comment_at : List ℕ → Front
comment_at [] = Nothing
comment_at (b ∷ body) = if b == 47 then Stands (LineComment (front_while goes_in_line body)) else block_of (up_to_close body)

abbrev pub goes_no_further : List ℕ → Bool
goes_no_further [] = true
goes_no_further (b ∷ bs) = not (goes_in_name b)

abbrev pub directive_behind : List ℕ → Front
directive_behind body = if goes_no_further body then Stands (Timescale (front_while goes_in_directive body)) else Nothing

abbrev pub directive_at : (leading : Bool) → List ℕ → Front
directive_at leading text = if leading && starts (codes "`timescale") text then directive_behind (drop 10 text) else Nothing

-- a word that stands there, if it is a token; without one a string is open
abbrev pub token_if : Word → Option TokenKind → Front
token_if word None = Refused
token_if word (Some kind) = Stands (Token word kind)

abbrev pub word_front : (is_string : Bool) → Option Word → Front
word_front is_string (Some word) = token_if word (kind_of word)
word_front true None = Open
word_front false None = Nothing

unfoldable pub front_at : (leading : Bool) → ℕ → List ℕ → Front
front_at leading b rest =
    if is_blank b then Stands (Blank b)
    else (if begins_comment (b ∷ rest) then comment_at rest
    else (if b == 96 then directive_at leading (b ∷ rest)
    else word_front (b == 34) (word_at b rest)))

-- what the code says of a piece
abbrev pub part_of : Piece → Part
part_of (Blank b) = parts.Gap
part_of (LineComment body) = parts.Gap
part_of (BlockComment body) = parts.Gap
part_of (Timescale body) = parts.Directive
part_of (Token word kind) = parts.Token kind

-- the word at the front is a token, and the bytes behind it
pub record ReadsWord (b : ℕ) (rest : List ℕ) (kind : TokenKind) (back : List ℕ) : Type 0 where
  pub word : Word
  pub found : word_at b rest ≡ Some word
  pub whole : b ∷ rest ≡ word_bytes word ++ back
  pub kinded : kind_of word ≡ Some kind

-- no token is the word at the front
abbrev pub NoWord : Place → ℕ → List ℕ → ScanFault → Type 0
NoWord here b rest (BadByte place) = (place ≡ here) × ((b == 34) ≡ false) × (word_at b rest ≡ None)
NoWord here b rest (BadNumber place) = (place ≡ here) × (number : Number) × (word_at b rest ≡ Some (Numeral number)) × (value_of number ≡ None)
NoWord here b rest (Unclosed place) = (place ≡ here) × ((b == 34) ≡ true) × (word_at b rest ≡ None)
NoWord here b rest TooLong = ⊥
NoWord here b rest NoMemory = Unit {0}

-- a piece at the front, and the bytes behind it
pub record IsFront (leading : Bool) (text : List ℕ) (part : Part) (back : List ℕ) : Type 0 where
  pub piece : Piece
  pub told : part ≡ part_of piece
  pub whole : text ≡ piece_bytes piece ++ back
  pub stands : IsPiece leading piece back

-- no piece stands there
abbrev pub StopsHere : (leading : Bool) → Place → List ℕ → ScanFault → Type 0
StopsHere leading here text (BadByte place) = (place ≡ here) × BeginsNothing leading text
StopsHere leading here text (BadNumber place) = (place ≡ here) × BeginsRefused text
StopsHere leading here text (Unclosed place) = (place ≡ here) × BeginsUnclosed text
StopsHere leading here text TooLong = ⊥
StopsHere leading here text NoMemory = Unit {0}

-- the front of a text was read: its pieces, the place behind them, and their tokens
pub record IsRead (start : Place) (text rest : List ℕ) (leading : Bool) (place : Place) (tokens : List SourceToken) : Type 0 where
  pub pieces : List Piece
  pub whole : text ≡ spelled pieces ++ rest
  pub stand : ArePieces true pieces rest
  pub leads : leading ≡ leads_after true pieces
  pub reached : place ≡ place_behind start (spelled pieces)
  pub found : tokens ≡ tokens_from start pieces

-- a comment with the bytes behind it, or none
abbrev pub TellsComment : List ℕ → Option (Bor (List ℕ)) → Type 0
TellsComment text None = begins_comment text ≡ false
TellsComment text (Some back) = (leading : Bool) → IsFront leading text parts.Gap back.now

-- what the code says of a number, and the bytes behind it
abbrev pub TellsNumber : Numbered → Option Written → List ℕ → Type 0
TellsNumber n value back = (value ≡ value_of n.0) × (back ≡ n.1)
