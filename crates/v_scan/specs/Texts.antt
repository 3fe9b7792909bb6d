-- A text is pieces one behind the other: blanks, comments, tokens, and one leading directive (IEEE 1364-2001, clauses 2.1 to 2.3, 19.8).
use Rattle.std.specs.Prelude.{◌≡◌, ℕ, ◌+◌, ◌<◌, ◌≤◌, ◌==◌, Bool, true, false, ◌&&◌, ◌||◌, not, List, [], ◌∷◌, ◌++◌, length, codes, ◌⊎◌, Some, None, if◌then◌else◌}
use Rattle.vf_base.specs.declared.ids.Place.{Place}
use Rattle.vf_base.specs.declared.limits.TheConstants.{MAX_DESIGN_BYTES}
use Rattle.v_tree.specs.declared.token.TokenKind.{TokenKind}
use Rattle.v_tree.specs.Tokens.{SourceToken}
use Rattle.v_scan.specs.declared.fault.ScanFault.{ScanFault}
use Rattle.v_scan.specs.declared.fault.ScanFault.TheVariants.{BadByte, BadNumber, Unclosed, TooLong, NoMemory}
use Rattle.v_scan.specs.Bytes.{is_blank, goes_in_name, goes_in_line, goes_in_directive, each, Stops}
use Rattle.v_scan.specs.Numbers.{Number, number_bytes, IsNumber, value_of}
use Rattle.v_scan.specs.Words.{Word, Numeral, word_bytes, IsWord, IsLongest, kind_of, is_inside}

-- a comment to the line's end keeps what stands behind its `//`, one to the next `*/` what stands between, the directive the rest of its line
pub data Piece : Type 0 where
  Blank : (byte : ℕ) → Piece
  LineComment : (body : List ℕ) → Piece
  BlockComment : (body : List ℕ) → Piece
  Timescale : (body : List ℕ) → Piece
  Token : (word : Word) (kind : TokenKind) → Piece

abbrev pub piece_bytes : Piece → List ℕ
piece_bytes (Blank b) = b ∷ []
piece_bytes (LineComment body) = 47 ∷ 47 ∷ body
piece_bytes (BlockComment body) = 47 ∷ 42 ∷ (body ++ 42 ∷ 47 ∷ [])
piece_bytes (Timescale body) = codes "`timescale" ++ body
piece_bytes (Token word kind) = word_bytes word

-- these bytes begin with `*/`
abbrev pub closes : List ℕ → Bool
closes [] = false
closes (b ∷ []) = false
closes (b ∷ c ∷ rest) = (b == 42) && (c == 47)

-- no `*/` stands among these bytes
abbrev pub has_no_close : List ℕ → Bool
has_no_close [] = true
has_no_close (b ∷ bs) = not (closes (b ∷ bs)) && has_no_close bs

-- these bytes begin with `//` or `/*`
abbrev pub begins_comment : List ℕ → Bool
begins_comment [] = false
begins_comment (b ∷ []) = false
begins_comment (b ∷ c ∷ rest) = (b == 47) && ((c == 47) || (c == 42))

-- A piece where these bytes follow it; `leading` says that no token and no directive came before.
abbrev pub IsPiece : (leading : Bool) → Piece → List ℕ → Type 0
IsPiece leading (Blank b) rest = is_blank b ≡ true
IsPiece leading (LineComment body) rest = (each goes_in_line body ≡ true) × Stops goes_in_line rest
IsPiece leading (BlockComment body) rest = has_no_close body ≡ true
IsPiece leading (Timescale body) rest = (leading ≡ true) × Stops goes_in_name (body ++ rest) × (each goes_in_directive body ≡ true) × Stops goes_in_directive rest
IsPiece leading (Token word kind) rest = IsWord word × IsLongest word rest × (begins_comment (word_bytes word ++ rest) ≡ false) × (kind_of word ≡ Some kind)

-- whether a directive may still stand behind a piece
abbrev pub leads_behind : Bool → Piece → Bool
leads_behind leading (Blank b) = leading
leads_behind leading (LineComment body) = leading
leads_behind leading (BlockComment body) = leading
leads_behind leading (Timescale body) = false
leads_behind leading (Token word kind) = false

-- the bytes of pieces one behind the other
abbrev pub spelled : List Piece → List ℕ
spelled [] = []
spelled (piece ∷ pieces) = piece_bytes piece ++ spelled pieces

-- pieces where these bytes follow them, each the one that stands in its place
abbrev pub ArePieces : (leading : Bool) → List Piece → List ℕ → Type 0
ArePieces leading [] rest = Unit {0}
ArePieces leading (piece ∷ pieces) rest = IsPiece leading piece (spelled pieces ++ rest) × ArePieces (leads_behind leading piece) pieces rest

-- whether a directive may still stand behind pieces
abbrev pub leads_after : Bool → List Piece → Bool
leads_after leading [] = leading
leads_after leading (piece ∷ pieces) = leads_after (leads_behind leading piece) pieces

-- Places

-- the place behind a byte
abbrev pub next_place : Place → ℕ → Place
next_place place b = if b == 10 then record { line = place.line + 1; column = 1 } else record { line = place.line; column = place.column + 1 }

-- the place behind these bytes
abbrev pub place_behind : Place → List ℕ → Place
place_behind place [] = place
place_behind place (b ∷ bs) = place_behind (next_place place b) bs

-- where a text begins
abbrev pub start : Place
start = record { line = 1; column = 1 }

-- the tokens among pieces, with their places
abbrev pub tokens_from : Place → List Piece → List SourceToken
tokens_from place [] = []
tokens_from place (Blank b ∷ pieces) = tokens_from (place_behind place (piece_bytes (Blank b))) pieces
tokens_from place (LineComment body ∷ pieces) = tokens_from (place_behind place (piece_bytes (LineComment body))) pieces
tokens_from place (BlockComment body ∷ pieces) = tokens_from (place_behind place (piece_bytes (BlockComment body))) pieces
tokens_from place (Timescale body ∷ pieces) = tokens_from (place_behind place (piece_bytes (Timescale body))) pieces
tokens_from place (Token word kind ∷ pieces) = record { kind = kind; place = place } ∷ tokens_from (place_behind place (word_bytes word)) pieces

-- Texts

-- these are the tokens of the text
pub record AreTokens (text : List ℕ) (tokens : List SourceToken) : Type 0 where
  pub short : length text ≤ MAX_DESIGN_BYTES
  pub pieces : List Piece
  pub whole : text ≡ spelled pieces
  pub stand : ArePieces true pieces []
  pub found : tokens ≡ tokens_from start pieces

-- Faults

-- a number that is refused begins these bytes
pub record BeginsRefused (rest : List ℕ) : Type 0 where
  pub number : Number
  pub back : List ℕ
  pub whole : rest ≡ number_bytes number ++ back
  pub is_number : IsNumber number
  pub longest : IsLongest (Numeral number) back
  pub none : value_of number ≡ None

-- a comment begins these bytes, and its end is missing
abbrev pub BeginsOpenComment : List ℕ → Type 0
BeginsOpenComment rest = (body : List ℕ) × (rest ≡ 47 ∷ 42 ∷ body) × (has_no_close body ≡ true)

-- a string begins these bytes, and its end is missing
abbrev pub BeginsOpenString : List ℕ → Type 0
BeginsOpenString rest = (body : List ℕ) × (rest ≡ 34 ∷ body) × ((inside back : List ℕ) → is_inside false inside ≡ true → body ≡ inside ++ 34 ∷ back → ⊥)

abbrev pub BeginsUnclosed : List ℕ → Type 0
BeginsUnclosed rest = BeginsOpenComment rest ⊎ BeginsOpenString rest

-- no piece begins these bytes, and nothing that is refused otherwise
pub record BeginsNothing (leading : Bool) (rest : List ℕ) : Type 0 where
  pub some : 0 < length rest
  pub no_piece : (piece : Piece) (back : List ℕ) → IsPiece leading piece back → rest ≡ piece_bytes piece ++ back → ⊥
  pub no_refused : BeginsRefused rest → ⊥
  pub no_unclosed : BeginsUnclosed rest → ⊥

-- up to this place the text is pieces, and there the rest begins as told
pub record StopsAt (text : List ℕ) (place : Place) (Begins : Bool → List ℕ → Type 0) : Type 0 where
  pub short : length text ≤ MAX_DESIGN_BYTES
  pub pieces : List Piece
  pub rest : List ℕ
  pub whole : text ≡ spelled pieces ++ rest
  pub stand : ArePieces true pieces rest
  pub reached : place ≡ place_behind start (spelled pieces)
  pub begins : Begins (leads_after true pieces) rest

-- why a text has no tokens; want of memory says nothing of the text
abbrev pub IsFault : List ℕ → ScanFault → Type 0
IsFault text (BadByte place) = StopsAt text place BeginsNothing
IsFault text (BadNumber place) = StopsAt text place (λ leading rest. BeginsRefused rest)
IsFault text (Unclosed place) = StopsAt text place (λ leading rest. BeginsUnclosed rest)
IsFault text TooLong = MAX_DESIGN_BYTES < length text
IsFault text NoMemory = Unit {0}
