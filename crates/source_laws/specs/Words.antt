-- The names of a text are spelled as names are, and there are no more tokens than bytes (IEEE 1364-2001, clause 2.7).
use Rattle.std.proofs.Common.{◌≡◌, ℕ, ◌<◌, ◌≤◌, Bool, true, false, List, [], ◌∷◌, length, Option, Some, None, refl, sym, ap, ◌∙◌, subst, length-append, inl, inr, arith}
use Rattle.std.specs.Prelude.{◌==◌, nat_le, ◌&&◌, ◌||◌}
use Rattle.std.proofs.lemmas.Bool.{or_cases, eqb-true, leb-true}
use Rattle.vf_base.specs.declared.ids.Place.{Place}
use Rattle.vf_base.specs.declared.limits.TheConstants.{MAX_DESIGN_BYTES}
use Rattle.vf_base.specs.Lists.{AllHold}
use Rattle.v_tree.specs.declared.token.TokenKind.{TokenKind}
use Rattle.v_tree.specs.declared.token.TokenKind.TheVariants as kinds
use Rattle.v_tree.specs.Tokens.{SourceToken}
use Rattle.v_names.specs.SizedLaws.{and-left, and-right}
use Rattle.v_scan.specs.Bytes.{is_letter, is_digit, goes_in_name, each, begins_and_goes_on}
use Rattle.v_scan.specs.Numbers.{value_of, Written}
use Rattle.v_scan.specs.Words.{Word, Named, System, Quoted, Marked, Numeral, word_bytes, IsWord, kind_of, number_kind}
use Rattle.v_scan.specs.Texts.{Piece, Blank, LineComment, BlockComment, Timescale, Token, piece_bytes, spelled, ArePieces, leads_behind, place_behind, start, tokens_from, AreTokens}
use Rattle.flat_laws.specs.Names.Spelled.{no-word-end, IsNameByte, IsSpelled}
use Rattle.source_laws.specs.Ascending.{word-some}

-- Bytes of names

-- which bytes a letter is not
letter-high : (b : ℕ) → is_letter b ≡ true → 57 < b
letter-high b h =
    elim (or_cases ((nat_le 65 b && nat_le b 90) || (nat_le 97 b && nat_le b 122)) (b == 95) h) [
      | inl letter ↦
          elim (or_cases (nat_le 65 b && nat_le b 90) (nat_le 97 b && nat_le b 122) letter) [
            | inl upper ↦ let low : 65 ≤ b = leb-true 65 b (and-left (nat_le 65 b) (nat_le b 90) upper) in omega arith
            | inr lower ↦ let low : 97 ≤ b = leb-true 97 b (and-left (nat_le 97 b) (nat_le b 122) lower) in omega arith
          ]
      | inr mark ↦ let is : b ≡ 95 = eqb-true b 95 mark in omega arith
    ]

name-byte : (b : ℕ) → goes_in_name b ≡ true → IsNameByte b
name-byte b h = record {
  no_dot = never 46 refl;
  no_bracket = never 91 refl;
  in_word = no-word-end b (never 9 refl) (never 10 refl) (never 13 refl) (never 32 refl);
}
  where
    never : (mark : ℕ) → goes_in_name mark ≡ false → b ≡ mark → ⊥
    never mark d e = let p : true ≡ false = sym h ∙ (ap goes_in_name e ∙ d) in absurd (cc)

names-bytes : (bytes : List ℕ) → each goes_in_name bytes ≡ true → AllHold IsNameByte bytes
names-bytes [] h = tt
names-bytes (b ∷ bytes) h = (name-byte b (and-left (goes_in_name b) (each goes_in_name bytes) h), names-bytes bytes (and-right (goes_in_name b) (each goes_in_name bytes) h))

name-spelled : (name : List ℕ) → begins_and_goes_on is_letter goes_in_name name ≡ true → IsSpelled name
name-spelled [] h = absurd (cc)
name-spelled (b ∷ name) h =
    let letter = and-left (is_letter b) (each goes_in_name name) h in
    (letter-high b letter, (name-byte b (goes b letter), names-bytes name (and-right (is_letter b) (each goes_in_name name) h)))
  where
    goes : (b : ℕ) → is_letter b ≡ true → goes_in_name b ≡ true
    goes b letter = ap (λ l. l || is_digit b || (b == 36)) letter

-- Tokens

-- a name or a word of the grammar is spelled as a name
abbrev pub HasSpelledKind : TokenKind → Type 0
HasSpelledKind (kinds.Word name) = IsSpelled name
HasSpelledKind _ = Unit {0}

kind-spelled : (word : Word) (kind : TokenKind) → IsWord word → kind_of word ≡ Some kind → HasSpelledKind kind
kind-spelled (Named name) kind is e =
    let same : kinds.Word name ≡ kind = cc in
    subst HasSpelledKind same (name-spelled name is)
kind-spelled (System name) kind is e = let same : kinds.System (36 ∷ name) ≡ kind = cc in subst HasSpelledKind same tt
kind-spelled (Quoted inside) kind is e = let same : kinds.Str ≡ kind = cc in subst HasSpelledKind same tt
kind-spelled (Marked mark) kind is e = let same : kinds.Mark mark ≡ kind = cc in subst HasSpelledKind same tt
kind-spelled (Numeral number) kind is e = numeral (value_of number) e
  where
    numeral : (value : Option Written) → number_kind value ≡ Some kind → HasSpelledKind kind
    numeral None d = absurd (cc)
    numeral (Some written) d = let same : kinds.Number written.0 written.1 ≡ kind = cc in subst HasSpelledKind same tt

abbrev AreSpelled : List SourceToken → Type 0
AreSpelled tokens = AllHold (λ (t : SourceToken). HasSpelledKind t.kind) tokens

tokens-spelled-from : (place : Place) (leading : Bool) (pieces : List Piece) (rest : List ℕ) → ArePieces leading pieces rest → AreSpelled (tokens_from place pieces)
tokens-spelled-from place leading [] rest h = tt
tokens-spelled-from place leading (Blank b ∷ pieces) rest h = tokens-spelled-from (place_behind place (piece_bytes (Blank b))) (leads_behind leading (Blank b)) pieces rest h.1
tokens-spelled-from place leading (LineComment body ∷ pieces) rest h =
    tokens-spelled-from (place_behind place (piece_bytes (LineComment body))) (leads_behind leading (LineComment body)) pieces rest h.1
tokens-spelled-from place leading (BlockComment body ∷ pieces) rest h =
    tokens-spelled-from (place_behind place (piece_bytes (BlockComment body))) (leads_behind leading (BlockComment body)) pieces rest h.1
tokens-spelled-from place leading (Timescale body ∷ pieces) rest h =
    tokens-spelled-from (place_behind place (piece_bytes (Timescale body))) (leads_behind leading (Timescale body)) pieces rest h.1
tokens-spelled-from place leading (Token word kind ∷ pieces) rest h =
    (kind-spelled word kind h.0.0 h.0.3, tokens-spelled-from (place_behind place (word_bytes word)) (leads_behind leading (Token word kind)) pieces rest h.1)

-- the names among the tokens of a text are spelled as names are
pub tokens-spelled : (text : List ℕ) (tokens : List SourceToken) → AreTokens text tokens → AllHold (λ (t : SourceToken). HasSpelledKind t.kind) tokens
tokens-spelled text tokens are = subst AreSpelled (sym are.found) (tokens-spelled-from start true are.pieces [] are.stand)

-- How many tokens there are

tokens-few-from : (place : Place) (leading : Bool) (pieces : List Piece) (rest : List ℕ) → ArePieces leading pieces rest → length (tokens_from place pieces) ≤ length (spelled pieces)
tokens-few-from place leading [] rest h = omega arith
tokens-few-from place leading (Blank b ∷ pieces) rest h =
    omega (arith, tokens-few-from (place_behind place (piece_bytes (Blank b))) (leads_behind leading (Blank b)) pieces rest h.1, length-append (piece_bytes (Blank b)) (spelled pieces))
tokens-few-from place leading (LineComment body ∷ pieces) rest h =
    omega (
      arith,
      tokens-few-from (place_behind place (piece_bytes (LineComment body))) (leads_behind leading (LineComment body)) pieces rest h.1,
      length-append (piece_bytes (LineComment body)) (spelled pieces),
    )
tokens-few-from place leading (BlockComment body ∷ pieces) rest h =
    omega (
      arith,
      tokens-few-from (place_behind place (piece_bytes (BlockComment body))) (leads_behind leading (BlockComment body)) pieces rest h.1,
      length-append (piece_bytes (BlockComment body)) (spelled pieces),
    )
tokens-few-from place leading (Timescale body ∷ pieces) rest h =
    omega (
      arith,
      tokens-few-from (place_behind place (piece_bytes (Timescale body))) (leads_behind leading (Timescale body)) pieces rest h.1,
      length-append (piece_bytes (Timescale body)) (spelled pieces),
    )
tokens-few-from place leading (Token word kind ∷ pieces) rest h =
    omega (
      arith,
      tokens-few-from (place_behind place (word_bytes word)) (leads_behind leading (Token word kind)) pieces rest h.1,
      length-append (word_bytes word) (spelled pieces),
      word-some word h.0.0,
    )

-- no more than a text may have bytes
pub tokens-few : (text : List ℕ) (tokens : List SourceToken) → AreTokens text tokens → length tokens ≤ MAX_DESIGN_BYTES
tokens-few text tokens are =
    let few = tokens-few-from start true are.pieces [] are.stand in
    omega (arith, few, are.short, ap length are.whole, ap length are.found)
