-- What stands at the front of a text is the only thing that can stand there.
use Rattle.std.proofs.Common.{◌≡◌, ℕ, Bool, true, false, ◌||◌, not, List, [], ◌∷◌, ◌++◌, drop, Option, Some, None, refl, sym, ◌∙◌, ap, subst, arith, append_assoc, inl, inr, ◌⊎◌, eqb-true}
use Rattle.std.proofs.lemmas.Bool.Decides.{nat_tests}
use Rattle.std.specs.Prelude.{◌==◌, codes, if◌then◌else◌}
use Rattle.v_tree.specs.declared.token.TokenKind.{TokenKind}
use Rattle.v_scan.specs.Bytes.{is_blank, is_digit, goes_in_name, goes_in_line, goes_in_directive, Stops}
use Rattle.v_scan.specs.Numbers.{value_of, Written}
use Rattle.v_scan.specs.Words.{Word, Named, System, Quoted, Marked, Numeral, word_bytes, IsWord, IsLongest, is_inside, number_kind, kind_of}
use Rattle.v_scan.specs.Texts.{Piece, Blank, LineComment, BlockComment, Timescale, Token, piece_bytes, IsPiece, has_no_close, begins_comment, BeginsRefused, BeginsOpenString, BeginsUnclosed}
use Rattle.v_scan.specs.Texts.{BeginsNothing}
use Rattle.v_scan.specs.Reading.{front_while, back_while, starts, up_to_quote, after_quote, up_to_close, after_close, word_at, Front, Stands, Refused, Open, Nothing, block_of, comment_at}
use Rattle.v_scan.specs.Reading.{goes_no_further, directive_behind, directive_at, token_if, word_front, front_at, quoted_of, sort_of, Sort, AsString, AsNumber, AsMark, word_by}
use Rattle.v_scan.proofs.Spans.{and-true, or-true, true-false, heads, tails, none_some, starts-rest, while-whole, while-each, while-stops, while-exact}
use Rattle.v_scan.proofs.QuoteLaws.{quote-read, quote, close-read, close-none, close}
use Rattle.v_scan.proofs.WordLaws.{first-byte, first-of, word-stands, word-longest, word-only, StandsIn}

pub stops-further : (text : List ℕ) → Stops goes_in_name text → goes_no_further text ≡ true
stops-further [] h = refl
stops-further (b ∷ bs) h = rw h refl

pub further-stops : (text : List ℕ) → goes_no_further text ≡ true → Stops goes_in_name text
further-stops [] h = tt
further-stops (b ∷ bs) h = at (goes_in_name b) refl h
  where
    at : (t : Bool) → goes_in_name b ≡ t → not t ≡ true → goes_in_name b ≡ false
    at true e g = absurd (let q : false ≡ true = g in cc)
    at false e g = e

-- no comment begins with a byte that isn't `/`
no-comment : (b : ℕ) (rest : List ℕ) → (b == 47) ≡ false → begins_comment (b ∷ rest) ≡ false
no-comment b [] h = refl
no-comment b (c ∷ rest) h = rw h refl

-- A piece that stands there is found

word-found : (leading : Bool) (word : Word) (back : List ℕ) (b : ℕ) (rest : List ℕ) → IsWord word → IsLongest word back → begins_comment (word_bytes word ++ back) ≡ false
    → word_bytes word ++ back ≡ b ∷ rest → front_at leading b rest ≡ token_if word (kind_of word)
unfolding front_at
word-found leading word back b rest is longest free e =
    let f = first-byte word is in
    let same = first-of word back b rest f e in
    let no_blank : is_blank b ≡ false = ap is_blank (sym same) ∙ f.no_blank in
    let no_tick : (b == 96) ≡ false = ap (λ d. d == 96) (sym same) ∙ f.no_tick in
    let no_comment : begins_comment (b ∷ rest) ≡ false = ap begins_comment (sym e) ∙ free in
    rw (no_blank, no_comment, no_tick, word-only word back b rest is longest e) refl

pub piece-only : (leading : Bool) (piece : Piece) (back : List ℕ) (b : ℕ) (rest : List ℕ) → IsPiece leading piece back → piece_bytes piece ++ back ≡ b ∷ rest → front_at leading b rest ≡ Stands piece
unfolding front_at
piece-only leading (Blank c) back b rest h e =
    let first : c ≡ b = heads c b back rest e in
    rw (subst (λ d. is_blank d ≡ true) first h) (ap (λ d. Stands (Blank d)) (sym first))
piece-only leading (LineComment body) back b rest h e =
    let first : 47 ≡ b = heads 47 b (47 ∷ (body ++ back)) rest e in
    let others : 47 ∷ (body ++ back) ≡ rest = tails 47 b (47 ∷ (body ++ back)) rest e in
    subst (λ d. front_at leading d rest ≡ Stands (LineComment body)) first (subst (λ w. front_at leading 47 w ≡ Stands (LineComment body)) others
    (ap (λ w. Stands (LineComment w)) (while-exact goes_in_line body back h.0 h.1)))
piece-only leading (BlockComment body) back b rest h e =
    let inside = (body ++ 42 ∷ 47 ∷ []) ++ back in
    let first : 47 ≡ b = heads 47 b (42 ∷ inside) rest e in
    let others : 42 ∷ inside ≡ rest = tails 47 b (42 ∷ inside) rest e in
    let read : up_to_close inside ≡ Some body = ap up_to_close (append_assoc body (42 ∷ 47 ∷ []) back) ∙ close-read body back h in
    subst (λ d. front_at leading d rest ≡ Stands (BlockComment body)) first (subst (λ w. front_at leading 47 w ≡ Stands (BlockComment body)) others (ap block_of read))
piece-only leading (Timescale body) back b rest h e =
    let text = codes "`timescale" ++ (body ++ back) in
    let same : text ≡ b ∷ rest = e in
    let behind : front_at true 96 (codes "timescale" ++ (body ++ back)) ≡ Stands (Timescale body) =
    rw (stops-further (body ++ back) h.1) (ap (λ w. Stands (Timescale w)) (while-exact goes_in_directive body back h.2 h.3)) in
    let first : 96 ≡ b = heads 96 b (codes "timescale" ++ (body ++ back)) rest same in
    let others : codes "timescale" ++ (body ++ back) ≡ rest = tails 96 b (codes "timescale" ++ (body ++ back)) rest same in
    subst (λ l. front_at l b rest ≡ Stands (Timescale body)) (sym h.0)
    (subst (λ d. front_at true d rest ≡ Stands (Timescale body)) first (subst (λ w. front_at true 96 w ≡ Stands (Timescale body)) others behind))
piece-only leading (Token word kind) back b rest h e = word-found leading word back b rest h.0 h.1 h.2 e ∙ ap (token_if word) h.3

-- A number that is refused

digit-slash : (b : ℕ) → is_digit b ≡ true → (b == 47) ≡ false
digit-slash b h = grind (arith, nat_tests)

pub refused-only : (leading : Bool) (b : ℕ) (rest : List ℕ) → BeginsRefused (b ∷ rest) → front_at leading b rest ≡ Refused
refused-only leading b rest r =
    let word = Numeral r.number in
    let f = first-byte word r.is_number in
    let same = first-of word r.back b rest f (sym r.whole) in
    let slash : (b == 47) ≡ false = ap (λ d. d == 47) (sym same) ∙ no-slash f.byte f.sorted in
    let free : begins_comment (word_bytes word ++ r.back) ≡ false = ap begins_comment (sym r.whole) ∙ no-comment b rest slash in
    word-found leading word r.back b rest r.is_number r.longest free (sym r.whole) ∙ ap (λ v. token_if word (number_kind v)) r.none
  where
    differ : ◌≡◌ {A = Sort} AsMark AsNumber → ⊥
    differ e = cc

    no-slash : (c : ℕ) → sort_of c ≡ AsNumber → (c == 47) ≡ false
    no-slash c e = at (c == 47) refl
      where
        at : (t : Bool) → (c == 47) ≡ t → t ≡ false
        at true g = absurd (differ (sym (ap sort_of (eqb-true c 47 g)) ∙ e))
        at false g = refl

-- A comment or a string without its end

no-quote : (body : List ℕ) → ((inside back : List ℕ) → is_inside false inside ≡ true → body ≡ inside ++ 34 ∷ back → ⊥) → up_to_quote false body ≡ None
no-quote body free = at (quote false body)
  where
    at : (((up_to_quote false body ≡ None) × (after_quote false body ≡ None))
        ⊎ ((inside back : List ℕ) × (up_to_quote false body ≡ Some inside) × (after_quote false body ≡ Some back) × (body ≡ inside ++ 34 ∷ back) × (is_inside false inside ≡ true)))
        → up_to_quote false body ≡ None
    at (inl (none, after)) = none
    at (inr (inside, back, some, after, whole, is)) = absurd (free inside back is whole)

open-comment : (leading : Bool) (body : List ℕ) → has_no_close body ≡ true → front_at leading 47 (42 ∷ body) ≡ Open
unfolding front_at
open-comment leading body h = ap block_of (close-none body h)

open-string : (leading : Bool) (body : List ℕ) → up_to_quote false body ≡ None → front_at leading 34 body ≡ Open
unfolding front_at word_at
open-string leading body h = rw (no-comment 34 body refl) (ap (λ o. word_front true (quoted_of o)) h)

pub unclosed-only : (leading : Bool) (b : ℕ) (rest : List ℕ) → BeginsUnclosed (b ∷ rest) → front_at leading b rest ≡ Open
unclosed-only leading b rest (inl (body, whole, none)) =
    ap (λ d. front_at leading d rest) (heads b 47 rest (42 ∷ body) whole) ∙ ap (front_at leading 47) (tails b 47 rest (42 ∷ body) whole) ∙ open-comment leading body none
unclosed-only leading b rest (inr (body, whole, none)) =
    ap (λ d. front_at leading d rest) (heads b 34 rest body whole) ∙ ap (front_at leading 34) (tails b 34 rest body whole) ∙ open-string leading body (no-quote body none)

-- What is found stands there

abbrev pub FrontIs : (leading : Bool) → List ℕ → Front → Type 0
FrontIs leading text (Stands piece) = (back : List ℕ) × (text ≡ piece_bytes piece ++ back) × IsPiece leading piece back
FrontIs leading text Refused = BeginsRefused text
FrontIs leading text Open = BeginsUnclosed text
FrontIs leading text Nothing = Unit {0}

comment-is : (leading : Bool) (b : ℕ) (rest : List ℕ) → begins_comment (b ∷ rest) ≡ true → FrontIs leading (b ∷ rest) (comment_at rest)
comment-is leading b [] h = absurd (let q : false ≡ true = h in cc)
comment-is leading b (c ∷ body) h = at (c == 47) refl
  where
    both : ((b == 47) ≡ true) × (((c == 47) || (c == 42)) ≡ true)
    both = and-true (b == 47) ((c == 47) || (c == 42)) h

    first : b ≡ 47
    first = eqb-true b 47 both.0

    second : (c == 47) ≡ false → ((c == 47) ≡ true) ⊎ ((c == 42) ≡ true) → c ≡ 42
    second e (inl g) = true-false (c == 47) g e
    second e (inr g) = eqb-true c 42 g

    block : c ≡ 42 → (((up_to_close body ≡ None) × (after_close body ≡ None) × (has_no_close body ≡ true))
        ⊎ ((inside back : List ℕ) × (up_to_close body ≡ Some inside) × (after_close body ≡ Some back) × (body ≡ inside ++ 42 ∷ 47 ∷ back) × (has_no_close inside ≡ true)))
        → FrontIs leading (b ∷ c ∷ body) (block_of (up_to_close body))
    block e (inl (none, after, is)) =
        subst (λ o. FrontIs leading (b ∷ c ∷ body) (block_of o)) (sym none) (inl (body, ap (λ d. d ∷ c ∷ body) first ∙ ap (λ d. 47 ∷ d ∷ body) e, is))
    block e (inr (inside, back, some, after, whole, is)) =
        let w : b ∷ c ∷ body ≡ 47 ∷ 42 ∷ ((inside ++ 42 ∷ 47 ∷ []) ++ back) =
        ap (λ d. d ∷ c ∷ body) first ∙ ap (λ d. 47 ∷ d ∷ body) e ∙ ap (λ t. 47 ∷ 42 ∷ t) (whole ∙ sym (append_assoc inside (42 ∷ 47 ∷ []) back)) in
        subst (λ o. FrontIs leading (b ∷ c ∷ body) (block_of o)) (sym some) (back, w, is)

    at : (t : Bool) → (c == 47) ≡ t → FrontIs leading (b ∷ c ∷ body) (if t then Stands (LineComment (front_while goes_in_line body)) else block_of (up_to_close body))
    at true e = (
      back_while goes_in_line body,
      ap (λ d. d ∷ c ∷ body) first ∙ ap (λ d. 47 ∷ d ∷ body) (eqb-true c 47 e) ∙ ap (λ t. 47 ∷ 47 ∷ t) (while-whole goes_in_line body),
      (while-each goes_in_line body, while-stops goes_in_line body),
    )
    at false e = block (second e (or-true (c == 47) (c == 42) both.1)) (close body)

pub directive-whole : (text : List ℕ) → starts (codes "`timescale") text ≡ true → text ≡ codes "`timescale" ++ drop 10 text
directive-whole text h =
    let r = starts-rest (codes "`timescale") text h in
    r.1 ∙ ap (λ t. codes "`timescale" ++ t) (sym (ap (drop 10) r.1))

directive-is : (leading : Bool) (text : List ℕ) → FrontIs leading text (directive_at leading text)
directive-is false text = tt
directive-is true text = at (starts (codes "`timescale") text) refl
  where
    body : List ℕ
    body = drop 10 text

    behind : text ≡ codes "`timescale" ++ drop 10 text → (t : Bool) → goes_no_further (drop 10 text) ≡ t
        → FrontIs true text (if t then Stands (Timescale (front_while goes_in_directive (drop 10 text))) else Nothing)
    behind w true g =
        let line = while-whole goes_in_directive (drop 10 text) in (
          back_while goes_in_directive (drop 10 text),
          w ∙ ap (λ t. codes "`timescale" ++ t) line,
          (
            refl,
            subst (Stops goes_in_name) line (further-stops (drop 10 text) g),
            while-each goes_in_directive (drop 10 text),
            while-stops goes_in_directive (drop 10 text),
          ),
        )
    behind w false g = tt

    at : (t : Bool) → starts (codes "`timescale") text ≡ t → FrontIs true text (if t then directive_behind (drop 10 text) else Nothing)
    at true e = behind (directive-whole text e) (goes_no_further (drop 10 text)) refl
    at false e = tt

pub no-string : (body : List ℕ) → up_to_quote false body ≡ None → BeginsOpenString (34 ∷ body)
no-string body none = (body, refl, (λ inside back is whole. none_some inside (sym none ∙ ap (up_to_quote false) whole ∙ quote-read false inside back is)))

quoted-none : (o : Option (List ℕ)) → quoted_of o ≡ None → o ≡ None
quoted-none None e = refl
quoted-none (Some inside) e = absurd (let q : ◌≡◌ {A = Option Word} (quoted_of (Some inside)) None = e in cc)

pub string-none : (b : ℕ) (rest : List ℕ) → (b == 34) ≡ true → word_at b rest ≡ None → BeginsUnclosed (b ∷ rest)
unfolding word_at
string-none b rest q e =
    let is : b ≡ 34 = eqb-true b 34 q in
    let none : word_by AsString 34 rest ≡ None = ap (λ d. word_at d rest) (sym is) ∙ e in
    subst (λ d. BeginsUnclosed (d ∷ rest)) (sym is) (inr (no-string rest (quoted-none (up_to_quote false rest) none)))

no-value : (v : Option Written) → number_kind v ≡ None → v ≡ None
no-value None e = refl
no-value (Some written) e = absurd (let q : ◌≡◌ {A = Option TokenKind} (number_kind (Some written)) None = e in cc)

kind-none : (kind : TokenKind) → ◌≡◌ {A = Option TokenKind} (Some kind) None → ⊥
kind-none kind e = cc

-- only a number has no kind
refused-is : (text : List ℕ) (word : Word) (back : List ℕ) → text ≡ word_bytes word ++ back → IsWord word → IsLongest word back → kind_of word ≡ None → BeginsRefused text
refused-is text (Named name) back w is longest e = absurd (kind-none _ e)
refused-is text (System name) back w is longest e = absurd (kind-none _ e)
refused-is text (Quoted inside) back w is longest e = absurd (kind-none _ e)
refused-is text (Marked mark) back w is longest e = absurd (kind-none _ e)
refused-is text (Numeral number) back w is longest e =
    record { number = number; back = back; whole = w; is_number = is; longest = longest; none = no-value (value_of number) e }

word-front : (leading : Bool) (b : ℕ) (rest : List ℕ) → begins_comment (b ∷ rest) ≡ false → FrontIs leading (b ∷ rest) (word_front (b == 34) (word_at b rest))
word-front leading b rest free = at (word_at b rest) refl (word-stands b rest)
  where
    kind : (word : Word) (back : List ℕ) → b ∷ rest ≡ word_bytes word ++ back → IsWord word → IsLongest word back → (o : Option TokenKind) → kind_of word ≡ o →
        FrontIs leading (b ∷ rest) (token_if word o)
    kind word back w is longest (Some k) e = (back, w, (is, longest, (ap begins_comment (sym w) ∙ free), e))
    kind word back w is longest None e = refused-is (b ∷ rest) word back w is longest e

    at : (o : Option Word) → word_at b rest ≡ o → StandsIn (b ∷ rest) o → FrontIs leading (b ∷ rest) (word_front (b == 34) o)
    at (Some word) e stands = kind word stands.0 stands.1 stands.2 (word-longest b rest word stands.0 e stands.1) (kind_of word) refl
    at None e stands = string (b == 34) refl
      where
        string : (t : Bool) → (b == 34) ≡ t → FrontIs leading (b ∷ rest) (word_front t None)
        string true q = string-none b rest q e
        string false q = tt

pub front-found : (leading : Bool) (b : ℕ) (rest : List ℕ) → FrontIs leading (b ∷ rest) (front_at leading b rest)
unfolding front_at
front-found leading b rest = blank (is_blank b) refl
  where
    tick : begins_comment (b ∷ rest) ≡ false → (t : Bool) → FrontIs leading (b ∷ rest) (if t then directive_at leading (b ∷ rest) else word_front (b == 34) (word_at b rest))
    tick free true = directive-is leading (b ∷ rest)
    tick free false = word-front leading b rest free

    comment : (t : Bool) → begins_comment (b ∷ rest) ≡ t
        → FrontIs leading (b ∷ rest) (if t then comment_at rest else (if b == 96 then directive_at leading (b ∷ rest) else word_front (b == 34) (word_at b rest)))
    comment true e = comment-is leading b rest e
    comment false e = tick e (b == 96)

    blank : (t : Bool) → is_blank b ≡ t
        → FrontIs leading (b ∷ rest) (if t then Stands (Blank b) else (if begins_comment (b ∷ rest) then comment_at rest
        else (if b == 96 then directive_at leading (b ∷ rest) else word_front (b == 34) (word_at b rest))))
    blank true e = (rest, refl, e)
    blank false e = comment (begins_comment (b ∷ rest)) refl

-- where nothing is found nothing begins
pub nothing-begins : (leading : Bool) (b : ℕ) (rest : List ℕ) → front_at leading b rest ≡ Nothing → BeginsNothing leading (b ∷ rest)
nothing-begins leading b rest e =
    record {
      some = omega arith;
      no_piece = λ piece back h w. differ-piece piece (sym (piece-only leading piece back b rest h (sym w)) ∙ e);
      no_refused = λ r. differ-refused (sym (refused-only leading b rest r) ∙ e);
      no_unclosed = λ u. differ-open (sym (unclosed-only leading b rest u) ∙ e);
    }
  where
    differ-piece : (piece : Piece) → ◌≡◌ {A = Front} (Stands piece) Nothing → ⊥
    differ-piece piece g = cc

    differ-refused : ◌≡◌ {A = Front} Refused Nothing → ⊥
    differ-refused g = cc

    differ-open : ◌≡◌ {A = Front} Open Nothing → ⊥
    differ-open g = cc

-- nothing begins where nothing is found, and only there
pub begins-nothing : (leading : Bool) (b : ℕ) (rest : List ℕ) → BeginsNothing leading (b ∷ rest) → front_at leading b rest ≡ Nothing
begins-nothing leading b rest n = at (front_at leading b rest) (front-found leading b rest)
  where
    at : (f : Front) → FrontIs leading (b ∷ rest) f → f ≡ Nothing
    at (Stands piece) is = absurd (n.no_piece piece is.0 is.2 is.1)
    at Refused is = absurd (n.no_refused is)
    at Open is = absurd (n.no_unclosed is)
    at Nothing is = refl
