-- Each token of a text stands behind the tokens before it (IEEE 1364-2001, clause 2.1).
use Rattle.std.proofs.Common.{◌≡◌, ℕ, ◌+◌, ◌<◌, Bool, true, List, [], ◌∷◌, ◌++◌, length, refl, sym, ap, subst, ◌⊎◌, inl, inr, arith}
use Rattle.std.specs.Prelude.{◌==◌}
use Rattle.std.proofs.lemmas.Bool.{cases_Bool, cond-true, cond-false}
use Rattle.vf_base.specs.declared.ids.Place.{Place}
use Rattle.vf_base.specs.Lists.{AllHold}
use Rattle.v_tree.specs.declared.token.Mark.{Mark}
use Rattle.v_tree.specs.declared.token.Mark.TheVariants as marks
use Rattle.v_tree.specs.Tokens.{SourceToken}
use Rattle.v_scan.specs.Bytes.{begins_and_goes_on}
use Rattle.v_scan.specs.Numbers.{Number, Plain_decimal, Unfinished, Based, number_bytes, IsNumber}
use Rattle.v_scan.specs.Words.{Word, Named, System, Quoted, Marked, Numeral, word_bytes, mark_bytes, IsWord}
use Rattle.v_scan.specs.Texts.{Piece, Blank, LineComment, BlockComment, Timescale, Token, piece_bytes, ArePieces, leads_behind, next_place, place_behind, start, tokens_from, AreTokens}
use Rattle.flat_laws.specs.Numbered.{AllHold-each}
use Rattle.source_laws.specs.InOrder.{IsInOrder}

-- Places

-- in the lines above, or in the same line further to the left
abbrev pub IsBefore : Place → Place → Type 0
IsBefore one other = (one.line < other.line) ⊎ ((one.line ≡ other.line) × (one.column < other.column))

-- there or behind it
abbrev pub IsFrom : Place → Place → Type 0
IsFrom one other = (one ≡ other) ⊎ IsBefore one other

before-before : (one two three : Place) → IsBefore one two → IsBefore two three → IsBefore one three
before-before one two three (inl h) (inl d) = inl (omega (arith, h, d))
before-before one two three (inl h) (inr d) = inl (omega (arith, h, d.0))
before-before one two three (inr h) (inl d) = inl (omega (arith, h.0, d))
before-before one two three (inr h) (inr d) = inr (omega (arith, h.0, d.0), omega (arith, h.1, d.1))

before-from : (one two three : Place) → IsBefore one two → IsFrom two three → IsBefore one three
before-from one two three h (inl e) = subst (IsBefore one) e h
before-from one two three h (inr d) = before-before one two three h d

from-from : (one two three : Place) → IsFrom one two → IsFrom two three → IsFrom one three
from-from one two three (inl e) d = subst (λ p. IsFrom p three) (sym e) d
from-from one two three (inr h) d = inr (before-from one two three h d)

-- no place is before itself
pub never-before : (one other : Place) → one ≡ other → IsBefore one other → ⊥
never-before one other e (inl h) = let same : one.line ≡ other.line = ap (λ (p : Place). p.line) e in omega (arith, h, same)
never-before one other e (inr h) = let same : one.column ≡ other.column = ap (λ (p : Place). p.column) e in omega (arith, h.1, same)

next-before : (place : Place) (b : ℕ) → IsBefore place (next_place place b)
next-before place b =
    elim (cases_Bool (b == 10)) [
      | inl is ↦ subst (IsBefore place) (sym (cond-true (b == 10) _ _ is)) (inl (omega arith))
      | inr other ↦ subst (IsBefore place) (sym (cond-false (b == 10) _ _ other)) (inr (refl, omega arith))
    ]

behind-from : (place : Place) (bytes : List ℕ) → IsFrom place (place_behind place bytes)
behind-from place [] = inl refl
behind-from place (b ∷ bytes) = inr (before-from place (next_place place b) (place_behind (next_place place b) bytes) (next-before place b) (behind-from (next_place place b) bytes))

behind-before : (place : Place) (bytes : List ℕ) → 0 < length bytes → IsBefore place (place_behind place bytes)
behind-before place [] some = absurd (omega arith)
behind-before place (b ∷ bytes) some = before-from place (next_place place b) (place_behind (next_place place b) bytes) (next-before place b) (behind-from (next_place place b) bytes)

-- Words have bytes

back-some : (xs ys : List ℕ) → 0 < length ys → 0 < length (xs ++ ys)
back-some [] ys some = some
back-some (x ∷ xs) ys some = omega arith

begun-some : (first others : ℕ → Bool) (bytes : List ℕ) → begins_and_goes_on first others bytes ≡ true → 0 < length bytes
begun-some first others [] h = absurd (cc)
begun-some first others (b ∷ bytes) h = omega arith

number-some : (number : Number) → IsNumber number → 0 < length (number_bytes number)
number-some (Plain_decimal digits) h = begun-some _ _ digits h
number-some (Unfinished size gap) h = back-some size _ (back-some gap (39 ∷ []) (omega arith))
number-some (Based size gap sign letter base space digits) h = back-some size _ (back-some gap (39 ∷ _) (omega arith))

mark-some : (mark : Mark) → 0 < length (mark_bytes mark)
mark-some marks.CaseEqual = omega arith
mark-some marks.CaseNotEqual = omega arith
mark-some marks.ArithmeticShiftLeft = omega arith
mark-some marks.ArithmeticShiftRight = omega arith
mark-some marks.LogicalAnd = omega arith
mark-some marks.LogicalOr = omega arith
mark-some marks.Equal = omega arith
mark-some marks.NotEqual = omega arith
mark-some marks.LessEqual = omega arith
mark-some marks.GreaterEqual = omega arith
mark-some marks.ShiftLeft = omega arith
mark-some marks.ShiftRight = omega arith
mark-some marks.Nand = omega arith
mark-some marks.Nor = omega arith
mark-some marks.TildeCaret = omega arith
mark-some marks.CaretTilde = omega arith
mark-some _ = omega arith

-- each word has a byte at least
pub word-some : (word : Word) → IsWord word → 0 < length (word_bytes word)
word-some (Named name) h = begun-some _ _ name h
word-some (System name) h = omega arith
word-some (Quoted inside) h = omega arith
word-some (Marked mark) h = mark-some mark
word-some (Numeral number) h = number-some number h

-- Tokens

abbrev pub ComesBefore : SourceToken → SourceToken → Type 0
ComesBefore one other = IsBefore one.place other.place

-- the tokens stand there or behind it, each behind those before it
pub record AreFrom (place : Place) (tokens : List SourceToken) : Type 0 where
  pub from : AllHold (λ (t : SourceToken). IsFrom place t.place) tokens
  pub order : IsInOrder ComesBefore tokens

behind-tokens : (place : Place) (bytes : List ℕ) (pieces : List Piece) → AreFrom (place_behind place bytes) (tokens_from (place_behind place bytes) pieces) →
    AreFrom place (tokens_from (place_behind place bytes) pieces)
behind-tokens place bytes pieces r =
    let behind = place_behind place bytes in
    record {
      from = AllHold-each (λ (t : SourceToken). IsFrom behind t.place) (λ (t : SourceToken). IsFrom place t.place) (tokens_from behind pieces)
          (λ t d. from-from place behind t.place (behind-from place bytes) d) r.from;
      order = r.order;
    }

tokens-from : (place : Place) (leading : Bool) (pieces : List Piece) (rest : List ℕ) → ArePieces leading pieces rest → AreFrom place (tokens_from place pieces)
tokens-from place leading [] rest h = record { from = tt; order = tt }
tokens-from place leading (Blank b ∷ pieces) rest h = behind-tokens place (piece_bytes (Blank b)) pieces
    (tokens-from (place_behind place (piece_bytes (Blank b))) (leads_behind leading (Blank b)) pieces rest h.1)
tokens-from place leading (LineComment body ∷ pieces) rest h =
    behind-tokens place (piece_bytes (LineComment body)) pieces (tokens-from (place_behind place (piece_bytes (LineComment body))) (leads_behind leading (LineComment body)) pieces rest h.1)
tokens-from place leading (BlockComment body ∷ pieces) rest h =
    behind-tokens place (piece_bytes (BlockComment body)) pieces (tokens-from (place_behind place (piece_bytes (BlockComment body))) (leads_behind leading (BlockComment body)) pieces rest h.1)
tokens-from place leading (Timescale body ∷ pieces) rest h =
    behind-tokens place (piece_bytes (Timescale body)) pieces (tokens-from (place_behind place (piece_bytes (Timescale body))) (leads_behind leading (Timescale body)) pieces rest h.1)
tokens-from place leading (Token word kind ∷ pieces) rest h =
    let behind = place_behind place (word_bytes word) in
    let before = behind-before place (word_bytes word) (word-some word h.0.0) in
    let later = tokens-from behind (leads_behind leading (Token word kind)) pieces rest h.1 in
    let more = tokens_from behind pieces in
    record {
      from = (inl refl, AllHold-each (λ (t : SourceToken). IsFrom behind t.place) (λ (t : SourceToken). IsFrom place t.place) more (λ t d. inr (before-from place behind t.place before d)) later.from);
      order = (AllHold-each (λ (t : SourceToken). IsFrom behind t.place) (λ (t : SourceToken). IsBefore place t.place) more (λ t d. before-from place behind t.place before d) later.from, later.order);
    }

-- the tokens of a text
pub tokens-ascend : (text : List ℕ) (tokens : List SourceToken) → AreTokens text tokens → IsInOrder ComesBefore tokens
tokens-ascend text tokens are = subst (IsInOrder ComesBefore) (sym are.found) (tokens-from start true are.pieces [] are.stand).order
