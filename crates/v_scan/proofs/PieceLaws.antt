-- What the code reads of a piece is the piece that stands there.
use Rattle.std.proofs.Common.{◌≡◌, ℕ, ◌<◌, ◌≤◌, Bool, true, false, ◌||◌, List, [], ◌∷◌, ◌++◌, length, drop, Some, None, refl, sym, ◌∙◌, ap, subst, arith, append_assoc, length-append, inl, inr, ◌⊎◌}
use Rattle.std.proofs.Common.{eqb-true, eq-eqb}
use Rattle.std.proofs.Math.Seq.{drop-append_seam}
use Rattle.std.specs.Prelude.{◌==◌, codes, if◌then◌else◌}
use Rattle.vf_base.specs.declared.ids.Place.{Place}
use Rattle.v_tree.specs.declared.token.TokenKind.{TokenKind}
use Rattle.v_tree.specs.declared.token.TokenKind.TheVariants as kinds
use Rattle.v_tree.specs.declared.token.Mark.{Mark}
use Rattle.v_scan.specs.declared.fault.ScanFault.{ScanFault}
use Rattle.v_scan.specs.declared.fault.ScanFault.TheVariants.{BadByte, BadNumber, Unclosed, TooLong, NoMemory}
use Rattle.v_scan.specs.declared.pieces.Part.TheVariants as parts
use Rattle.v_scan.specs.Bytes.{is_blank, is_letter, is_digit, goes_in_name, goes_in_line, goes_in_directive, Stops}
use Rattle.v_scan.specs.Numbers.{Written, value_of}
use Rattle.v_scan.specs.Words.{Named, System, Quoted, Marked, Numeral, word_bytes, mark_bytes, number_kind, is_inside}
use Rattle.v_scan.specs.Texts.{Blank, LineComment, BlockComment, Timescale, Token, has_no_close, begins_comment, BeginsUnclosed}
use Rattle.v_scan.specs.Reading.{front_while, back_while, up_to_quote, after_quote, up_to_close, after_close, marks, first_mark, number_at, Sort, AsName, AsSystem, AsString, AsNumber, AsMark}
use Rattle.v_scan.specs.Reading.{sort_of, system_of, quoted_of, marked_of, word_by, word_at, Front, Stands, Nothing, comment_at, word_front, goes_no_further, directive_at, front_at, IsFront}
use Rattle.v_scan.specs.Reading.{ReadsWord, NoWord, StopsHere}
use Rattle.v_scan.proofs.Spans.{or-true, some_same, none_some, while-whole, while-each, while-stops}
use Rattle.v_scan.proofs.MarkLaws.{mark-found}
use Rattle.v_scan.proofs.QuoteLaws.{quote, close}
use Rattle.v_scan.proofs.NumberLaws.{Begins, number-found}
use Rattle.v_scan.proofs.WordLaws.{word-stands, word-longest, StandsIn, digit-sort}
use Rattle.v_scan.proofs.FrontLaws.{further-stops, string-none, nothing-begins}

-- Words

by-sort : (s : Sort) (b : ℕ) (rest : List ℕ) → sort_of b ≡ s → word_at b rest ≡ word_by s b rest
unfolding word_at
by-sort s b rest e = ap (λ t. word_by t b rest) e

letter-sort : (b : ℕ) → is_letter b ≡ true → sort_of b ≡ AsName
letter-sort b h = rw h refl

pub mark-sort : (b : ℕ) → is_letter b ≡ false → (b == 36) ≡ false → (b == 34) ≡ false → (is_digit b || (b == 39)) ≡ false → sort_of b ≡ AsMark
mark-sort b l d q n = rw (l, d, q, n) refl

letter-name : (b : ℕ) (rest : List ℕ) → is_letter b ≡ true
    → (front_while goes_in_name (b ∷ rest) ≡ b ∷ front_while goes_in_name rest) × (back_while goes_in_name (b ∷ rest) ≡ back_while goes_in_name rest)
letter-name b rest h = (rw h refl, rw h refl)

pub reads-name : (b : ℕ) (rest text bytes back name : List ℕ) → text ≡ b ∷ rest → is_letter b ≡ true → bytes ≡ front_while goes_in_name text → back ≡ back_while goes_in_name text → name ≡ bytes
    → ReadsWord b rest (kinds.Word name) back
reads-name b rest text bytes back name t h f k n =
    let parts = letter-name b rest h in
    let name_is : name ≡ b ∷ front_while goes_in_name rest = n ∙ f ∙ ap (front_while goes_in_name) t ∙ parts.0 in
    let back_is : back ≡ back_while goes_in_name rest = k ∙ ap (back_while goes_in_name) t ∙ parts.1 in
    record {
      word = Named (b ∷ front_while goes_in_name rest);
      found = by-sort AsName b rest (letter-sort b h);
      whole = ap (λ w. b ∷ w) (while-whole goes_in_name rest) ∙ ap (λ w. b ∷ (front_while goes_in_name rest ++ w)) (sym back_is);
      kinded = ap (λ w. Some (kinds.Word w)) (sym name_is);
    }

system-word : (b : ℕ) (rest : List ℕ) → b ≡ 36 → word_at b rest ≡ system_of (front_while goes_in_name rest)
system-word b rest e = by-sort AsSystem b rest (ap sort_of e)

system-some : (name : List ℕ) → 1 ≤ length name → system_of name ≡ Some (System name)
system-some [] h = absurd (let q : 1 ≤ 0 = h in omega arith)
system-some (b ∷ name) h = refl

system-none : (name : List ℕ) → length name < 1 → system_of name ≡ None
system-none [] h = refl
system-none (b ∷ name) h = absurd (omega (arith, h))

dollar-name : (b : ℕ) (rest text : List ℕ) → text ≡ b ∷ rest → b ≡ 36
    → (front_while goes_in_name text ≡ 36 ∷ front_while goes_in_name rest) × (back_while goes_in_name text ≡ back_while goes_in_name rest)
dollar-name b rest text t e = (ap (front_while goes_in_name) (t ∙ ap (λ d. d ∷ rest) e), ap (back_while goes_in_name) (t ∙ ap (λ d. d ∷ rest) e))

pub reads-system : (b : ℕ) (rest text bytes back name : List ℕ) → text ≡ b ∷ rest → b ≡ 36 → bytes ≡ front_while goes_in_name text → back ≡ back_while goes_in_name text → name ≡ bytes →
    2 ≤ length bytes
    → ReadsWord b rest (kinds.System name) back
reads-system b rest text bytes back name t e f k n long =
    let parts = dollar-name b rest text t e in
    let bytes_is : bytes ≡ 36 ∷ front_while goes_in_name rest = f ∙ parts.0 in
    let some : 1 ≤ length (front_while goes_in_name rest) = omega (arith, long, ap length bytes_is) in
    record {
      word = System (front_while goes_in_name rest);
      found = system-word b rest e ∙ system-some (front_while goes_in_name rest) some;
      whole = ap (λ d. d ∷ rest) e ∙ ap (λ w. 36 ∷ w) (while-whole goes_in_name rest) ∙ ap (λ w. 36 ∷ (front_while goes_in_name rest ++ w)) (sym (k ∙ parts.1));
      kinded = ap (λ w. Some (kinds.System w)) (sym (n ∙ bytes_is));
    }

pub no-system : (place : Place) (b : ℕ) (rest text bytes : List ℕ) → text ≡ b ∷ rest → b ≡ 36 → bytes ≡ front_while goes_in_name text → length bytes < 2 → NoWord place b rest (BadByte place)
no-system place b rest text bytes t e f short =
    let bytes_is : bytes ≡ 36 ∷ front_while goes_in_name rest = f ∙ (dollar-name b rest text t e).0 in
    let none : length (front_while goes_in_name rest) < 1 = omega (arith, short, ap length bytes_is) in
    (refl, ap (λ d. d == 34) e, system-word b rest e ∙ system-none (front_while goes_in_name rest) none)

string-word : (b : ℕ) (rest : List ℕ) → b ≡ 34 → word_at b rest ≡ quoted_of (up_to_quote false rest)
string-word b rest e = by-sort AsString b rest (ap sort_of e)

pub reads-string : (b : ℕ) (rest back : List ℕ) → b ≡ 34 → after_quote false rest ≡ Some back → ReadsWord b rest kinds.Str back
reads-string b rest back e a = at (quote false rest)
  where
    at : (((up_to_quote false rest ≡ None) × (after_quote false rest ≡ None))
        ⊎ ((inside behind : List ℕ) × (up_to_quote false rest ≡ Some inside) × (after_quote false rest ≡ Some behind) × (rest ≡ inside ++ 34 ∷ behind) × (is_inside false inside ≡ true)))
        → ReadsWord b rest kinds.Str back
    at (inl (none, after)) = none_some back (sym after ∙ a)
    at (inr (inside, behind, some, after, whole, is)) =
        let same : behind ≡ back = some_same behind back (sym after ∙ a) in
        record {
          word = Quoted inside;
          found = string-word b rest e ∙ ap quoted_of some;
          whole = ap (λ d. d ∷ rest) e ∙ ap (λ w. 34 ∷ w) (whole ∙ ap (λ w. inside ++ 34 ∷ w) same ∙ sym (append_assoc inside (34 ∷ []) back));
          kinded = refl;
        }

pub no-string-word : (place : Place) (b : ℕ) (rest : List ℕ) → b ≡ 34 → after_quote false rest ≡ None → NoWord place b rest (Unclosed place)
no-string-word place b rest e a = at (quote false rest)
  where
    at : (((up_to_quote false rest ≡ None) × (after_quote false rest ≡ None))
        ⊎ ((inside behind : List ℕ) × (up_to_quote false rest ≡ Some inside) × (after_quote false rest ≡ Some behind) × (rest ≡ inside ++ 34 ∷ behind) × (is_inside false inside ≡ true)))
        → NoWord place b rest (Unclosed place)
    at (inl (none, after)) = (refl, eq-eqb b 34 e, string-word b rest e ∙ ap quoted_of none)
    at (inr (inside, behind, some, after, whole, is)) = none_some behind (sym a ∙ after)

mark-word : (b : ℕ) (rest : List ℕ) → sort_of b ≡ AsMark → word_at b rest ≡ marked_of (first_mark marks (b ∷ rest))
mark-word b rest s = by-sort AsMark b rest s

pub mark-fits : (text : List ℕ) (b : ℕ) (rest : List ℕ) (m : Mark) → text ≡ b ∷ rest → first_mark marks (b ∷ rest) ≡ Some m → length (mark_bytes m) ≤ length text
mark-fits text b rest m t e = let f = mark-found (b ∷ rest) m e in omega (arith, ap length t, ap length f.1, length-append (mark_bytes m) f.0)

pub reads-mark : (text : List ℕ) (b : ℕ) (rest back : List ℕ) (m : Mark) (n : ℕ) → text ≡ b ∷ rest → sort_of b ≡ AsMark → first_mark marks (b ∷ rest) ≡ Some m → n ≡ length (mark_bytes m) →
    back ≡ drop n text
    → ReadsWord b rest (kinds.Mark m) back
reads-mark text b rest back m n t s e l k =
    let f = mark-found (b ∷ rest) m e in
    let back_is : back ≡ f.0 = k ∙ ap (λ i. drop i text) l ∙ ap (drop (length (mark_bytes m))) (t ∙ f.1) ∙ drop-append_seam (mark_bytes m) f.0 in
    record {
      word = Marked m;
      found = mark-word b rest s ∙ ap marked_of e;
      whole = f.1 ∙ ap (λ w. mark_bytes m ++ w) (sym back_is);
      kinded = refl;
    }

pub no-mark : (place : Place) (b : ℕ) (rest : List ℕ) → sort_of b ≡ AsMark → first_mark marks (b ∷ rest) ≡ None → NoWord place b rest (BadByte place)
no-mark place b rest s e = (refl, at (b == 34) refl, mark-word b rest s ∙ ap marked_of e)
  where
    differ : ◌≡◌ {A = Sort} AsString AsMark → ⊥
    differ g = cc

    at : (t : Bool) → (b == 34) ≡ t → t ≡ false
    at true g = absurd (differ (sym (ap sort_of (eqb-true b 34 g)) ∙ s))
    at false g = refl

-- Numbers

number-sort : (b : ℕ) → (is_digit b || (b == 39)) ≡ true → (sort_of b ≡ AsNumber) × Begins b
number-sort b h = at (or-true (is_digit b) (b == 39) h)
  where
    at : ((is_digit b ≡ true) ⊎ ((b == 39) ≡ true)) → (sort_of b ≡ AsNumber) × Begins b
    at (inl d) = (digit-sort b d, inl d)
    at (inr q) = let e = eqb-true b 39 q in (ap sort_of e, inr e)

number-word : (b : ℕ) (rest : List ℕ) → sort_of b ≡ AsNumber → word_at b rest ≡ Some (Numeral (number_at (b ∷ rest)).0)
number-word b rest s = by-sort AsNumber b rest s

pub reads-number : (text : List ℕ) (b : ℕ) (rest back : List ℕ) (written : Written) → text ≡ b ∷ rest → (is_digit b || (b == 39)) ≡ true
    → value_of (number_at text).0 ≡ Some written → back ≡ (number_at text).1 → ReadsWord b rest (kinds.Number written.0 written.1) back
reads-number text b rest back written t h v k =
    let s = number-sort b h in
    let n = number-found b rest s.1 in
    let back_is : back ≡ (number_at (b ∷ rest)).1 = k ∙ ap (λ w. (number_at w).1) t in
    record {
      word = Numeral (number_at (b ∷ rest)).0;
      found = number-word b rest s.0;
      whole = n.whole ∙ ap (λ w. word_bytes (Numeral (number_at (b ∷ rest)).0) ++ w) (sym back_is);
      kinded = ap number_kind (ap (λ w. value_of (number_at w).0) (sym t) ∙ v);
    }

pub no-number : (place : Place) (text : List ℕ) (b : ℕ) (rest : List ℕ) → text ≡ b ∷ rest → (is_digit b || (b == 39)) ≡ true → value_of (number_at text).0 ≡ None →
    NoWord place b rest (BadNumber place)
no-number place text b rest t h v = (refl, (number_at (b ∷ rest)).0, number-word b rest (number-sort b h).0, ap (λ w. value_of (number_at w).0) (sym t) ∙ v)

-- Pieces

pub blank-front : (leading : Bool) (text : List ℕ) (b : ℕ) (rest : List ℕ) → text ≡ b ∷ rest → is_blank b ≡ true → IsFront leading text parts.Gap rest
blank-front leading text b rest t h = record { piece = Blank b; told = refl; whole = t; stands = h }

pub line-front : (leading : Bool) (text second body back : List ℕ) → text ≡ 47 ∷ second → second ≡ 47 ∷ body → back ≡ back_while goes_in_line body → IsFront leading text parts.Gap back
line-front leading text second body back t s e =
    record {
      piece = LineComment (front_while goes_in_line body);
      told = refl;
      whole = t ∙ ap (λ w. 47 ∷ w) s ∙ ap (λ w. 47 ∷ 47 ∷ w) (while-whole goes_in_line body) ∙ ap (λ w. 47 ∷ 47 ∷ (front_while goes_in_line body ++ w)) (sym e);
      stands = (while-each goes_in_line body, subst (Stops goes_in_line) (sym e) (while-stops goes_in_line body));
    }

pub block-front : (leading : Bool) (text second body back : List ℕ) → text ≡ 47 ∷ second → second ≡ 42 ∷ body → after_close body ≡ Some back → IsFront leading text parts.Gap back
block-front leading text second body back t s a = at (close body)
  where
    at : (((up_to_close body ≡ None) × (after_close body ≡ None) × (has_no_close body ≡ true))
        ⊎ ((inside behind : List ℕ) × (up_to_close body ≡ Some inside) × (after_close body ≡ Some behind) × (body ≡ inside ++ 42 ∷ 47 ∷ behind) × (has_no_close inside ≡ true)))
        → IsFront leading text parts.Gap back
    at (inl (none, after, is)) = none_some back (sym after ∙ a)
    at (inr (inside, behind, some, after, whole, is)) =
        let same : behind ≡ back = some_same behind back (sym after ∙ a) in
        record {
          piece = BlockComment inside;
          told = refl;
          whole = t ∙ ap (λ w. 47 ∷ w) s ∙ ap (λ w. 47 ∷ 42 ∷ w) (whole ∙ ap (λ w. inside ++ 42 ∷ 47 ∷ w) same ∙ sym (append_assoc inside (42 ∷ 47 ∷ []) back));
          stands = is;
        }

pub open-front : (text second body : List ℕ) → text ≡ 47 ∷ second → second ≡ 42 ∷ body → after_close body ≡ None → BeginsUnclosed text
open-front text second body t s a = at (close body)
  where
    at : (((up_to_close body ≡ None) × (after_close body ≡ None) × (has_no_close body ≡ true))
        ⊎ ((inside behind : List ℕ) × (up_to_close body ≡ Some inside) × (after_close body ≡ Some behind) × (body ≡ inside ++ 42 ∷ 47 ∷ behind) × (has_no_close inside ≡ true)))
        → BeginsUnclosed text
    at (inl (none, after, is)) = inl (body, t ∙ ap (λ w. 47 ∷ w) s, is)
    at (inr (inside, behind, some, after, whole, is)) = none_some behind (sym a ∙ after)

byte-other : (b c : ℕ) (rest : List ℕ) → ((others : List ℕ) → ◌≡◌ {A = List ℕ} (b ∷ rest) (c ∷ others) → ⊥) → (b == c) ≡ false
byte-other b c rest h = at (b == c) refl
  where
    at : (t : Bool) → (b == c) ≡ t → t ≡ false
    at true e = absurd (h rest (ap (λ d. d ∷ rest) (eqb-true b c e)))
    at false e = refl

pub no-slash : (text : List ℕ) → ((rest : List ℕ) → text ≡ 47 ∷ rest → ⊥) → begins_comment text ≡ false
no-slash [] h = refl
no-slash (b ∷ []) h = refl
no-slash (b ∷ c ∷ rest) h = rw (byte-other b 47 (c ∷ rest) h) refl

pub no-second : (text second : List ℕ) → text ≡ 47 ∷ second → ((rest : List ℕ) → second ≡ 47 ∷ rest → ⊥) → ((rest : List ℕ) → second ≡ 42 ∷ rest → ⊥) → begins_comment text ≡ false
no-second text [] t h g = ap begins_comment t
no-second text (c ∷ rest) t h g = ap begins_comment t ∙ (let line = byte-other c 47 rest h in let block = byte-other c 42 rest g in rw (line, block) refl)

pub directive-front : (text body back : List ℕ) → text ≡ codes "`timescale" ++ body → goes_no_further body ≡ true → back ≡ back_while goes_in_directive body → IsFront true text parts.Directive back
directive-front text body back t h e =
    let line : body ≡ front_while goes_in_directive body ++ back = while-whole goes_in_directive body ∙ ap (λ w. front_while goes_in_directive body ++ w) (sym e) in
    record {
      piece = Timescale (front_while goes_in_directive body);
      told = refl;
      whole = t ∙ ap (λ w. codes "`timescale" ++ w) line;
      stands = (
        refl,
        subst (Stops goes_in_name) line (further-stops body h),
        while-each goes_in_directive body,
        subst (Stops goes_in_directive) (sym e) (while-stops goes_in_directive body),
      );
    }

pub word-front-is : (leading : Bool) (text : List ℕ) (b : ℕ) (rest : List ℕ) (kind : TokenKind) (back : List ℕ) → text ≡ b ∷ rest → begins_comment text ≡ false → ReadsWord b rest kind back →
    IsFront leading text (parts.Token kind) back
word-front-is leading text b rest kind back t free r =
    let stands = subst (StandsIn (b ∷ rest)) r.found (word-stands b rest) in
    record {
      piece = Token r.word kind;
      told = refl;
      whole = t ∙ r.whole;
      stands = (stands.2, word-longest b rest r.word back r.found r.whole, ap begins_comment (sym (t ∙ r.whole)) ∙ free, r.kinded);
    }

nothing-at : (leading : Bool) (b : ℕ) (rest : List ℕ) → is_blank b ≡ false → begins_comment (b ∷ rest) ≡ false → (b == 96) ≡ false → (b == 34) ≡ false → word_at b rest ≡ None →
    front_at leading b rest ≡ Nothing
unfolding front_at
nothing-at leading b rest blank free tick q none = rw (blank, free, tick, q, none) refl

pub word-stops : (leading : Bool) (place : Place) (text : List ℕ) (b : ℕ) (rest : List ℕ) (fault : ScanFault) → text ≡ b ∷ rest → is_blank b ≡ false → begins_comment text ≡ false → (b == 96) ≡ false
    → NoWord place b rest fault → StopsHere leading place text fault
word-stops leading place text b rest (BadByte p) t blank free tick (same, q, none) =
    (same, rw t (nothing-begins leading b rest (nothing-at leading b rest blank (ap begins_comment (sym t) ∙ free) tick q none)))
word-stops leading place text b rest (BadNumber p) t blank free tick (same, number, found, none) =
    let stands = subst (StandsIn (b ∷ rest)) found (word-stands b rest) in
    (same, record { number = number; back = stands.0; whole = t ∙ stands.1; is_number = stands.2; longest = word-longest b rest (Numeral number) stands.0 found stands.1; none = none })
word-stops leading place text b rest (Unclosed p) t blank free tick (same, q, none) = (same, rw t (string-none b rest q none))
word-stops leading place text b rest TooLong t blank free tick h = absurd h
word-stops leading place text b rest NoMemory t blank free tick h = tt

third : (x y z : Bool) (a b c d : Front) → x ≡ false → y ≡ false → z ≡ true → (if x then a else (if y then b else (if z then c else d))) ≡ c
third x y z a b c d f g h = rw (f, g, h) refl

directive-nothing : (leading : Bool) (b : ℕ) (rest : List ℕ) → is_blank b ≡ false → begins_comment (b ∷ rest) ≡ false → (b == 96) ≡ true → directive_at leading (b ∷ rest) ≡ Nothing →
    front_at leading b rest ≡ Nothing
unfolding front_at
directive-nothing leading b rest blank free tick none =
    third (is_blank b) (begins_comment (b ∷ rest)) (b == 96) (Stands (Blank b)) (comment_at rest) (directive_at leading (b ∷ rest)) (word_front (b == 34) (word_at b rest)) blank free tick ∙ none

pub directive-stops : (leading : Bool) (place : Place) (text : List ℕ) (b : ℕ) (rest : List ℕ) (fault : ScanFault) → text ≡ b ∷ rest → is_blank b ≡ false → begins_comment text ≡ false →
    (b == 96) ≡ true
    → fault ≡ BadByte place → directive_at leading text ≡ Nothing → StopsHere leading place text fault
directive-stops leading place text b rest fault t blank free tick f none =
    subst (StopsHere leading place text) (sym f)
    (refl, rw t (nothing-begins leading b rest (directive-nothing leading b rest blank (ap begins_comment (sym t) ∙ free) tick (ap (directive_at leading) (sym t) ∙ none))))
