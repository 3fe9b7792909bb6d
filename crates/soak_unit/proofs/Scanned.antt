-- Pieces where bytes follow them, and pieces one behind the other (IEEE 1364-2001, clause 2).
use Rattle.std.proofs.Common.{◌≡◌, ℕ, zero, suc, ◌<◌, Bool, true, false, List, [], ◌∷◌, ◌++◌, refl, sym, ap, subst, ◌∙◌, append_assoc, arith}
use Rattle.std.specs.Prelude.{◌==◌}
use Rattle.std.specs.List.{flat_map}
use Rattle.std.specs.Fmt.{decimal}
use Rattle.vf_base.specs.Lists.{AllHold}
use Rattle.vf_base.specs.declared.ids.Place.{Place}
use Rattle.four_value.specs.Values.{LogicValue, bits_of}
use Rattle.v_tree.specs.declared.token.TokenKind.TheVariants as kinds
use Rattle.v_tree.specs.declared.token.NumberForm.TheVariants.{Plain}
use Rattle.v_tree.specs.declared.token.Mark.{Mark}
use Rattle.v_tree.specs.declared.token.Mark.TheVariants.{Assign, Tilde, Hash, Semicolon, LeftParen, RightParen, Comma, At, LessEqual}
use Rattle.v_scan.specs.Bytes.{is_blank, is_letter, goes_in_name, each, Stops}
use Rattle.v_scan.specs.Numbers.{Plain_decimal}
use Rattle.v_scan.specs.Words.{Named, Marked, Numeral, word_bytes}
use Rattle.v_scan.specs.Texts.{Piece, Blank, LineComment, BlockComment, Timescale, Token, piece_bytes, IsPiece, leads_behind, spelled, ArePieces, place_behind, tokens_from, begins_comment}
use Rattle.v_scan.specs.Reading.{Front, Stands, number_at, word_at, front_at}
use Rattle.std.proofs.lemmas.Fmt.{decimal_digit}
use Rattle.v_scan.proofs.Spans.{cancel, while-exact}
use Rattle.v_scan.proofs.FrontLaws.{FrontIs, front-found}
use Rattle.v_scan.proofs.TextLaws.{behind-append}

-- the pieces of the generated text

abbrev pub space : Piece
space = Blank 32

abbrev pub line_end : Piece
line_end = Blank 10

abbrev pub named : List ℕ → Piece
named name = Token (Named name) (kinds.Word name)

abbrev pub marked : Mark → Piece
marked mark = Token (Marked mark) (kinds.Mark mark)

abbrev pub digits : List ℕ → LogicValue → Piece
digits bytes value = Token (Numeral (Plain_decimal bytes)) (kinds.Number value Plain)

-- what is found at the front stands there
pub found-stands : (leading : Bool) (piece : Piece) (b : ℕ) (bs back : List ℕ) → b ∷ bs ≡ piece_bytes piece ++ back → front_at leading b bs ≡ Stands piece → IsPiece leading piece back
found-stands leading piece b bs back whole found = by (front_at leading b bs) found (front-found leading b bs)
  where
    by : (f : Front) → f ≡ Stands piece → FrontIs leading (b ∷ bs) f → IsPiece leading piece back
    by f e h =
        let r = subst (FrontIs leading (b ∷ bs)) e h in
        subst (IsPiece leading piece) (cancel (piece_bytes piece) r.0 back (sym r.1 ∙ whole)) r.2

no-comment : (b : ℕ) (rest : List ℕ) → (b == 47) ≡ false → begins_comment (b ∷ rest) ≡ false
no-comment b [] h = refl
no-comment b (c ∷ rest) h = rw h refl

-- Names

name-front : (leading : Bool) (b : ℕ) (bs rest : List ℕ) → is_blank b ≡ false → (b == 47) ≡ false → (b == 96) ≡ false → is_letter b ≡ true → each goes_in_name bs ≡ true →
    Stops goes_in_name rest → front_at leading b (bs ++ rest) ≡ Stands (named (b ∷ bs))
unfolding front_at word_at
name-front leading b bs rest no_blank no_slash no_tick letter goes stops =
    rw (no_blank, no-comment b (bs ++ rest) no_slash, no_tick, letter, while-exact goes_in_name bs rest goes stops) refl

pub name-stands : (leading : Bool) (b : ℕ) (bs rest : List ℕ) → is_blank b ≡ false → (b == 47) ≡ false → (b == 96) ≡ false → is_letter b ≡ true → each goes_in_name bs ≡ true →
    Stops goes_in_name rest → IsPiece leading (named (b ∷ bs)) rest
name-stands leading b bs rest no_blank no_slash no_tick letter goes stops =
    found-stands leading (named (b ∷ bs)) b (bs ++ rest) rest refl (name-front leading b bs rest no_blank no_slash no_tick letter goes stops)

-- Marks, where these bytes follow them

pub assign-stands : (leading : Bool) (rest : List ℕ) → IsPiece leading (marked Assign) (32 ∷ rest)
unfolding front_at word_at
assign-stands leading rest = found-stands leading (marked Assign) 61 (32 ∷ rest) (32 ∷ rest) refl refl

pub tilde-stands : (leading : Bool) (rest : List ℕ) → IsPiece leading (marked Tilde) (99 ∷ rest)
unfolding front_at word_at
tilde-stands leading rest = found-stands leading (marked Tilde) 126 (99 ∷ rest) (99 ∷ rest) refl refl

pub hash-stands : (leading : Bool) (rest : List ℕ) → IsPiece leading (marked Hash) (53 ∷ rest)
unfolding front_at word_at
hash-stands leading rest = found-stands leading (marked Hash) 35 (53 ∷ rest) (53 ∷ rest) refl refl

pub semicolon-stands : (leading : Bool) (rest : List ℕ) → IsPiece leading (marked Semicolon) (10 ∷ rest)
unfolding front_at word_at
semicolon-stands leading rest = found-stands leading (marked Semicolon) 59 (10 ∷ rest) (10 ∷ rest) refl refl

pub open-stands : (leading : Bool) (b : ℕ) (rest : List ℕ) → IsPiece leading (marked LeftParen) (b ∷ rest)
unfolding front_at word_at
open-stands leading b rest = found-stands leading (marked LeftParen) 40 (b ∷ rest) (b ∷ rest) refl refl

pub close-stands : (leading : Bool) (b : ℕ) (rest : List ℕ) → IsPiece leading (marked RightParen) (b ∷ rest)
unfolding front_at word_at
close-stands leading b rest = found-stands leading (marked RightParen) 41 (b ∷ rest) (b ∷ rest) refl refl

pub comma-stands : (leading : Bool) (b : ℕ) (rest : List ℕ) → IsPiece leading (marked Comma) (b ∷ rest)
unfolding front_at word_at
comma-stands leading b rest = found-stands leading (marked Comma) 44 (b ∷ rest) (b ∷ rest) refl refl

pub at-stands : (leading : Bool) (b : ℕ) (rest : List ℕ) → IsPiece leading (marked At) (b ∷ rest)
unfolding front_at word_at
at-stands leading b rest = found-stands leading (marked At) 64 (b ∷ rest) (b ∷ rest) refl refl

pub less_equal-stands : (leading : Bool) (rest : List ℕ) → IsPiece leading (marked LessEqual) (32 ∷ rest)
unfolding front_at word_at
less_equal-stands leading rest = found-stands leading (marked LessEqual) 60 (61 ∷ 32 ∷ rest) (32 ∷ rest) refl refl

-- Numbers

zero-stands : (leading : Bool) (rest : List ℕ) → IsPiece leading (digits (48 ∷ []) (bits_of 32 0)) (59 ∷ rest)
unfolding front_at word_at number_at
zero-stands leading rest = found-stands leading (digits (48 ∷ []) (bits_of 32 0)) 48 (59 ∷ rest) (59 ∷ rest) refl refl

one-stands : (leading : Bool) (rest : List ℕ) → IsPiece leading (digits (49 ∷ []) (bits_of 32 1)) (59 ∷ rest)
unfolding front_at word_at number_at
one-stands leading rest = found-stands leading (digits (49 ∷ []) (bits_of 32 1)) 49 (59 ∷ rest) (59 ∷ rest) refl refl

-- a first value, 0 or 1
pub first-stands : (leading : Bool) (first : ℕ) (rest : List ℕ) → first < 2 → IsPiece leading (digits (decimal first) (bits_of 32 first)) (59 ∷ rest)
first-stands leading zero rest low = subst (λ bs. IsPiece leading (digits bs (bits_of 32 0)) (59 ∷ rest)) (sym (decimal_digit 0 (omega arith))) (zero-stands leading rest)
first-stands leading (suc zero) rest low = subst (λ bs. IsPiece leading (digits bs (bits_of 32 1)) (59 ∷ rest)) (sym (decimal_digit 1 (omega arith))) (one-stands leading rest)
first-stands leading (suc (suc first)) rest low = absurd (omega (arith, low))

pub five-stands : (leading : Bool) (rest : List ℕ) → IsPiece leading (digits (53 ∷ []) (bits_of 32 5)) (32 ∷ 99 ∷ rest)
unfolding front_at word_at number_at
five-stands leading rest = found-stands leading (digits (53 ∷ []) (bits_of 32 5)) 53 (32 ∷ 99 ∷ rest) (32 ∷ 99 ∷ rest) refl refl

-- Pieces one behind the other

pub spelled-both : (ps qs : List Piece) → spelled (ps ++ qs) ≡ spelled ps ++ spelled qs
spelled-both [] qs = refl
spelled-both (p ∷ ps) qs = ap (λ bs. piece_bytes p ++ bs) (spelled-both ps qs) ∙ sym (append_assoc (piece_bytes p) (spelled ps) (spelled qs))

pub spelled-all : {A : Type 0} (f : A → List Piece) (g : A → List ℕ) → ((x : A) → spelled (f x) ≡ g x) → (xs : List A) → spelled (flat_map f xs) ≡ flat_map g xs
spelled-all f g h [] = refl
spelled-all f g h (x ∷ xs) = spelled-both (f x) (flat_map f xs) ∙ (ap (λ bs. bs ++ spelled (flat_map f xs)) (h x) ∙ ap (λ bs. g x ++ bs) (spelled-all f g h xs))

-- no directive stands behind a token
leads-no-more : (p : Piece) → leads_behind false p ≡ false
leads-no-more (Blank b) = refl
leads-no-more (LineComment body) = refl
leads-no-more (BlockComment body) = refl
leads-no-more (Timescale body) = refl
leads-no-more (Token word kind) = refl

pub pieces-both : (ps qs : List Piece) (rest : List ℕ) → ArePieces false ps (spelled qs ++ rest) → ArePieces false qs rest → ArePieces false (ps ++ qs) rest
pieces-both [] qs rest h d = d
pieces-both (p ∷ ps) qs rest h d =
    let after : ArePieces false ps (spelled qs ++ rest) = subst (λ l. ArePieces l ps (spelled qs ++ rest)) (leads-no-more p) h.1 in (
      subst (IsPiece false p) (sym (append_assoc (spelled ps) (spelled qs) rest) ∙ ap (λ bs. bs ++ rest) (sym (spelled-both ps qs))) h.0,
      subst (λ l. ArePieces l (ps ++ qs) rest) (sym (leads-no-more p)) (pieces-both ps qs rest after d),
    )

pub pieces-all : {A : Type 0} (P : A → Type 0) (f : A → List Piece) → ((x : A) (rest : List ℕ) → P x → ArePieces false (f x) rest) → (xs : List A) (rest : List ℕ) → AllHold P xs →
    ArePieces false (flat_map f xs) rest
pieces-all P f h [] rest all = tt
pieces-all P f h (x ∷ xs) rest all = pieces-both (f x) (flat_map f xs) rest (h x (spelled (flat_map f xs) ++ rest) all.0) (pieces-all P f h xs rest all.1)

-- Tokens

pub tokens-both : (place : Place) (ps qs : List Piece) → tokens_from place (ps ++ qs) ≡ tokens_from place ps ++ tokens_from (place_behind place (spelled ps)) qs
tokens-both place [] qs = refl
tokens-both place (Blank b ∷ ps) qs =
    tokens-both (place_behind place (piece_bytes (Blank b))) ps qs
tokens-both place (LineComment body ∷ ps) qs =
    tokens-both (place_behind place (piece_bytes (LineComment body))) ps qs
    ∙ ap (λ p. tokens_from (place_behind place (piece_bytes (LineComment body))) ps ++ tokens_from p qs) (sym (behind-append place (piece_bytes (LineComment body)) (spelled ps)))
tokens-both place (BlockComment body ∷ ps) qs =
    tokens-both (place_behind place (piece_bytes (BlockComment body))) ps qs
    ∙ ap (λ p. tokens_from (place_behind place (piece_bytes (BlockComment body))) ps ++ tokens_from p qs) (sym (behind-append place (piece_bytes (BlockComment body)) (spelled ps)))
tokens-both place (Timescale body ∷ ps) qs =
    tokens-both (place_behind place (piece_bytes (Timescale body))) ps qs
    ∙ ap (λ p. tokens_from (place_behind place (piece_bytes (Timescale body))) ps ++ tokens_from p qs) (sym (behind-append place (piece_bytes (Timescale body)) (spelled ps)))
tokens-both place (Token word kind ∷ ps) qs =
    ap (λ ts. record { kind = kind; place = place } ∷ ts) (tokens-both (place_behind place (word_bytes word)) ps qs
    ∙ ap (λ p. tokens_from (place_behind place (word_bytes word)) ps ++ tokens_from p qs) (sym (behind-append place (word_bytes word) (spelled ps))))
