-- The word at the front of a text is the longest, and the only one.
use Rattle.std.proofs.Common.{◌≡◌, ℕ, ◌≤◌, Bool, true, false, ◌||◌, List, [], ◌∷◌, ◌++◌, length, Option, Some, None, refl, sym, ◌∙◌, ap, subst, arith, append_assoc, inl, inr, ◌⊎◌, eqb-true}
use Rattle.std.proofs.lemmas.Bool.Decides.{nat_tests}
use Rattle.std.specs.Prelude.{◌==◌, if◌then◌else◌}
use Rattle.v_tree.specs.declared.token.Mark.{Mark}
use Rattle.v_scan.specs.Bytes.{is_blank, is_letter, is_digit, goes_in_name, goes_in_decimal, each, begins_and_goes_on}
use Rattle.v_scan.specs.Numbers.{Number, Plain_decimal, Unfinished, Based, number_bytes}
use Rattle.v_scan.specs.Words.{Word, Named, System, Quoted, Marked, Numeral, word_bytes, IsWord, IsLongest, is_inside}
use Rattle.v_scan.specs.Reading.{front_while, back_while, up_to_quote, after_quote, marks, first_mark, number_at, Sort, AsName, AsSystem, AsString, AsNumber, AsMark, sort_of, system_of, quoted_of}
use Rattle.v_scan.specs.Reading.{marked_of, word_by, word_at}
use Rattle.v_scan.proofs.Spans.{and-true, or-true, heads, tails, no_cons, prefix-one, while-whole, while-each, while-longest, while-all}
use Rattle.v_scan.proofs.MarkLaws.{mark-first, mark-alone, mark-found, mark-longest}
use Rattle.v_scan.proofs.QuoteLaws.{quote-read, quote}
use Rattle.v_scan.proofs.NumberLaws.{Begins, number-found, number-longest, number-alone}

-- First bytes

abbrev pub sort_of_word : Word → Sort
sort_of_word (Named name) = AsName
sort_of_word (System name) = AsSystem
sort_of_word (Quoted inside) = AsString
sort_of_word (Marked mark) = AsMark
sort_of_word (Numeral number) = AsNumber

letter-blank : (b : ℕ) → is_letter b ≡ true → is_blank b ≡ false
letter-blank b h = grind (arith, nat_tests)

letter-tick : (b : ℕ) → is_letter b ≡ true → (b == 96) ≡ false
letter-tick b h = grind (arith, nat_tests)

pub digit-blank : (b : ℕ) → is_digit b ≡ true → is_blank b ≡ false
digit-blank b h = grind (arith, nat_tests)

digit-tick : (b : ℕ) → is_digit b ≡ true → (b == 96) ≡ false
digit-tick b h = grind (arith, nat_tests)

digit-letter : (b : ℕ) → is_digit b ≡ true → is_letter b ≡ false
digit-letter b h = grind (arith, nat_tests)

digit-dollar : (b : ℕ) → is_digit b ≡ true → (b == 36) ≡ false
digit-dollar b h = grind (arith, nat_tests)

digit-quote : (b : ℕ) → is_digit b ≡ true → (b == 34) ≡ false
digit-quote b h = grind (arith, nat_tests)

pub digit-sort : (b : ℕ) → is_digit b ≡ true → sort_of b ≡ AsNumber
digit-sort b h = rw (digit-letter b h, digit-dollar b h, digit-quote b h, h) refl

-- a word's first byte tells its sort
pub record FirstByte (word : Word) : Type 0 where
  pub byte : ℕ
  pub others : List ℕ
  pub whole : word_bytes word ≡ byte ∷ others
  pub sorted : sort_of byte ≡ sort_of_word word
  pub no_blank : is_blank byte ≡ false
  pub no_tick : (byte == 96) ≡ false

digit-first : (number : Number) (b : ℕ) (bs : List ℕ) → number_bytes number ≡ b ∷ bs → is_digit b ≡ true → FirstByte (Numeral number)
digit-first number b bs w h = record { byte = b; others = bs; whole = w; sorted = digit-sort b h; no_blank = digit-blank b h; no_tick = digit-tick b h }

quote-first : (number : Number) (bs : List ℕ) → number_bytes number ≡ 39 ∷ bs → FirstByte (Numeral number)
quote-first number bs w = record { byte = 39; others = bs; whole = w; sorted = refl; no_blank = refl; no_tick = refl }

pub first-byte : (word : Word) → IsWord word → FirstByte word
first-byte (Named []) h = absurd (let q : false ≡ true = h in cc)
first-byte (Named (b ∷ name)) h =
    let letter = (and-true (is_letter b) (each goes_in_name name) h).0 in
    record { byte = b; others = name; whole = refl; sorted = rw letter refl; no_blank = letter-blank b letter; no_tick = letter-tick b letter }
first-byte (System name) h = record { byte = 36; others = name; whole = refl; sorted = refl; no_blank = refl; no_tick = refl }
first-byte (Quoted inside) h = record { byte = 34; others = inside ++ 34 ∷ []; whole = refl; sorted = refl; no_blank = refl; no_tick = refl }
first-byte (Marked mark) h = let f = mark-first mark in record { byte = f.0; others = f.1; whole = f.2; sorted = f.3; no_blank = f.4; no_tick = f.5 }
first-byte (Numeral (Plain_decimal [])) h = absurd (let q : false ≡ true = h in cc)
first-byte (Numeral (Plain_decimal (b ∷ digits))) h = digit-first (Plain_decimal (b ∷ digits)) b digits refl (and-true (is_digit b) (each goes_in_decimal digits) h).0
first-byte (Numeral (Unfinished [] gap)) h = quote-first (Unfinished [] gap) [] (ap (λ g. g ++ 39 ∷ []) h)
first-byte (Numeral (Unfinished (b ∷ size) gap)) h = digit-first (Unfinished (b ∷ size) gap) b (size ++ (gap ++ 39 ∷ [])) refl h.0
first-byte (Numeral (Based [] gap sign letter base space digits)) h =
    quote-first (Based [] gap sign letter base space digits) (sign ++ letter ∷ (space ++ digits)) (ap (λ g. g ++ 39 ∷ (sign ++ letter ∷ (space ++ digits))) h.0)
first-byte (Numeral (Based (b ∷ size) gap sign letter base space digits)) h =
    digit-first (Based (b ∷ size) gap sign letter base space digits) b (size ++ (gap ++ 39 ∷ (sign ++ letter ∷ (space ++ digits)))) refl h.0.0

-- the first byte of a text in which a word stands
pub first-of : (word : Word) (more : List ℕ) (b : ℕ) (rest : List ℕ) (f : FirstByte word) → word_bytes word ++ more ≡ b ∷ rest → f.byte ≡ b
first-of word more b rest f e = heads f.byte b (f.others ++ more) rest (sym (ap (λ w. w ++ more) f.whole) ∙ e)

pub sort-first : (word : Word) (more : List ℕ) (b : ℕ) (rest : List ℕ) → IsWord word → word_bytes word ++ more ≡ b ∷ rest → sort_of b ≡ sort_of_word word
sort-first word more b rest h e = let f = first-byte word h in ap sort_of (sym (first-of word more b rest f e)) ∙ f.sorted

-- The longest word

-- a word that is found, and is no shorter
abbrev Reaches : ℕ → Option Word → Type 0
Reaches n found = (word : Word) × (found ≡ Some word) × (n ≤ length (word_bytes word))

system-some : (name : List ℕ) → 1 ≤ length name → system_of name ≡ Some (System name)
system-some [] h = absurd (let q : 1 ≤ 0 = h in omega arith)
system-some (b ∷ name) h = refl

name-each : (first others : ℕ → Bool) (name : List ℕ) → begins_and_goes_on first others name ≡ true → 1 ≤ length name
name-each first others [] h = absurd (let q : false ≡ true = h in cc)
name-each first others (b ∷ name) h = omega arith

all-each : (p : ℕ → Bool) (name : List ℕ) → begins_and_goes_on p p name ≡ true → each p name ≡ true
all-each p [] h = absurd (let q : false ≡ true = h in cc)
all-each p (b ∷ name) h = h

reach : (word : Word) (more : List ℕ) (b : ℕ) (rest : List ℕ) → IsWord word → word_bytes word ++ more ≡ b ∷ rest → Reaches (length (word_bytes word)) (word_by (sort_of_word word) b rest)
reach (Named []) more b rest h e = absurd (let q : false ≡ true = h in cc)
reach (Named (c ∷ name)) more b rest h e =
    let n = while-longest goes_in_name rest name more (and-true (is_letter c) (each goes_in_name name) h).1 (tails c b (name ++ more) rest e) in
    (Named (b ∷ front_while goes_in_name rest), refl, omega (arith, n))
reach (System name) more b rest h e =
    let n = while-longest goes_in_name rest name more (all-each goes_in_name name h) (tails 36 b (name ++ more) rest e) in
    let some = name-each goes_in_name goes_in_name name h in
    (System (front_while goes_in_name rest), system-some (front_while goes_in_name rest) (omega (arith, n, some)), omega (arith, n))
reach (Quoted inside) more b rest h e =
    let is : (inside ++ 34 ∷ []) ++ more ≡ rest = tails 34 b ((inside ++ 34 ∷ []) ++ more) rest e in
    let read : up_to_quote false rest ≡ Some inside = ap (up_to_quote false) (sym is ∙ append_assoc inside (34 ∷ []) more) ∙ quote-read false inside more h in
    (Quoted inside, ap quoted_of read, omega arith)
reach (Marked mark) more b rest h e = let f = mark-longest (b ∷ rest) mark more e in (Marked f.0, ap marked_of f.1, f.2)
reach (Numeral number) more b rest h e = (Numeral (number_at (b ∷ rest)).0, refl, number-longest (b ∷ rest) number more h e)

pub word-reach : (word : Word) (more : List ℕ) (b : ℕ) (rest : List ℕ) → IsWord word → word_bytes word ++ more ≡ b ∷ rest
    → (found : Word) × (word_at b rest ≡ Some found) × (length (word_bytes word) ≤ length (word_bytes found))
unfolding word_at
word-reach word more b rest h e =
    subst (λ s. Reaches (length (word_bytes word)) (word_by s b rest)) (sym (sort-first word more b rest h e)) (reach word more b rest h e)

-- A word that is found stands there

abbrev SortIs : Sort → ℕ → Type 0
SortIs AsName b = is_letter b ≡ true
SortIs AsSystem b = b ≡ 36
SortIs AsString b = b ≡ 34
SortIs AsNumber b = Begins b
SortIs AsMark b = Unit {0}

sort-is : (b : ℕ) → SortIs (sort_of b) b
sort-is b = at (is_letter b) (b == 36) (b == 34) (is_digit b || (b == 39)) refl refl refl refl
  where
    number : ((is_digit b ≡ true) ⊎ ((b == 39) ≡ true)) → Begins b
    number (inl d) = inl d
    number (inr q) = inr (eqb-true b 39 q)

    at : (l d q n : Bool) → is_letter b ≡ l → (b == 36) ≡ d → (b == 34) ≡ q → (is_digit b || (b == 39)) ≡ n
        → SortIs (if l then AsName else (if d then AsSystem else (if q then AsString else (if n then AsNumber else AsMark)))) b
    at true d q n le de qe ne = le
    at false true q n le de qe ne = eqb-true b 36 de
    at false false true n le de qe ne = eqb-true b 34 qe
    at false false false true le de qe ne = number (or-true (is_digit b) (b == 39) ne)
    at false false false false le de qe ne = tt

-- a word, and the bytes behind it, that make up a text
abbrev pub StandsIn : List ℕ → Option Word → Type 0
StandsIn text None = Unit {0}
StandsIn text (Some word) = (back : List ℕ) × (text ≡ word_bytes word ++ back) × IsWord word

system-stands : (b : ℕ) (rest name back : List ℕ) → b ≡ 36 → rest ≡ name ++ back → each goes_in_name name ≡ true → StandsIn (b ∷ rest) (system_of name)
system-stands b rest [] back e w h = tt
system-stands b rest (c ∷ name) back e w h = (back, ap (λ d. d ∷ rest) e ∙ ap (λ t. 36 ∷ t) w, h)

stands-by : (s : Sort) (b : ℕ) (rest : List ℕ) → SortIs s b → StandsIn (b ∷ rest) (word_by s b rest)
stands-by AsName b rest h =
    (back_while goes_in_name rest, ap (λ w. b ∷ w) (while-whole goes_in_name rest), rw (h, while-each goes_in_name rest) refl)
stands-by AsSystem b rest h = system-stands b rest (front_while goes_in_name rest) (back_while goes_in_name rest) h (while-whole goes_in_name rest) (while-each goes_in_name rest)
stands-by AsString b rest h = at (quote false rest)
  where
    at : (((up_to_quote false rest ≡ None) × (after_quote false rest ≡ None))
        ⊎ ((inside back : List ℕ) × (up_to_quote false rest ≡ Some inside) × (after_quote false rest ≡ Some back) × (rest ≡ inside ++ 34 ∷ back) × (is_inside false inside ≡ true)))
        → StandsIn (b ∷ rest) (quoted_of (up_to_quote false rest))
    at (inl (none, after)) = subst (λ o. StandsIn (b ∷ rest) (quoted_of o)) (sym none) tt
    at (inr (inside, back, some, after, whole, is)) =
        let w : b ∷ rest ≡ (34 ∷ (inside ++ 34 ∷ [])) ++ back = ap (λ d. d ∷ rest) h ∙ ap (λ t. 34 ∷ t) (whole ∙ sym (append_assoc inside (34 ∷ []) back)) in
        subst (λ o. StandsIn (b ∷ rest) (quoted_of o)) (sym some) (back, w, is)
stands-by AsNumber b rest h = let n = number-found b rest h in ((number_at (b ∷ rest)).1, n.whole, n.fine)
stands-by AsMark b rest h = at (first_mark marks (b ∷ rest)) refl
  where
    at : (o : Option Mark) → first_mark marks (b ∷ rest) ≡ o → StandsIn (b ∷ rest) (marked_of o)
    at None e = tt
    at (Some mark) e = let f = mark-found (b ∷ rest) mark e in (f.0, f.1, tt)

pub word-stands : (b : ℕ) (rest : List ℕ) → StandsIn (b ∷ rest) (word_at b rest)
unfolding word_at
word-stands b rest = stands-by (sort_of b) b rest (sort-is b)

some_word : (v w : Word) → ◌≡◌ {A = Option Word} (Some v) (Some w) → v ≡ w
some_word v w e = cc

-- and is the longest there
pub word-longest : (b : ℕ) (rest : List ℕ) (word : Word) (back : List ℕ) → word_at b rest ≡ Some word → b ∷ rest ≡ word_bytes word ++ back → IsLongest word back
word-longest b rest word back e w other more h g =
    let r = word-reach other more b rest h (g ∙ sym w) in
    let same : r.0 ≡ word = some_word r.0 word (sym r.1 ∙ e) in
    subst (λ v. length (word_bytes other) ≤ length (word_bytes v)) same r.2

-- One spelling

-- a word alone is read
word-alone : (word : Word) (b : ℕ) (bs : List ℕ) → IsWord word → word_bytes word ≡ b ∷ bs → word_by (sort_of_word word) b bs ≡ Some word
word-alone (Named []) b bs h e = no_cons b bs e
word-alone (Named (c ∷ name)) b bs h e =
    let same : name ≡ bs = tails c b name bs e in
    let each_one = (and-true (is_letter c) (each goes_in_name name) h).1 in
    ap (λ w. Some (Named (b ∷ front_while goes_in_name w))) (sym same) ∙ ap (λ w. Some (Named (b ∷ w))) (while-all goes_in_name name each_one)
    ∙ ap (λ d. Some (Named (d ∷ name))) (sym (heads c b name bs e))
word-alone (System name) b bs h e =
    let same : name ≡ bs = tails 36 b name bs e in
    ap (λ w. system_of (front_while goes_in_name w)) (sym same) ∙ ap system_of (while-all goes_in_name name (all-each goes_in_name name h))
    ∙ system-some name (name-each goes_in_name goes_in_name name h)
word-alone (Quoted inside) b bs h e = ap quoted_of (ap (up_to_quote false) (sym (tails 34 b (inside ++ 34 ∷ []) bs e)) ∙ quote-read false inside [] h)
word-alone (Marked mark) b bs h e = ap marked_of (ap (first_mark marks) (sym e) ∙ mark-alone mark)
word-alone (Numeral number) b bs h e = ap (λ n. Some (Numeral n)) (ap (λ t. (number_at t).0) (sym e) ∙ number-alone number h)

pub word-one : (v w : Word) → IsWord v → IsWord w → word_bytes v ≡ word_bytes w → v ≡ w
word-one v w h g e =
    let f = first-byte v h in
    let k = first-byte w g in
    let first : f.byte ≡ k.byte = heads f.byte k.byte f.others k.others (sym f.whole ∙ e ∙ k.whole) in
    let others : f.others ≡ k.others = tails f.byte k.byte f.others k.others (sym f.whole ∙ e ∙ k.whole) in
    let sorts : sort_of_word v ≡ sort_of_word w = sym f.sorted ∙ ap sort_of first ∙ k.sorted in
    let one = word-alone v f.byte f.others h f.whole in
    let two = word-alone w k.byte k.others g k.whole in
    let both : word_by (sort_of_word v) f.byte f.others ≡ word_by (sort_of_word w) k.byte k.others =
    ap (λ s. word_by s f.byte f.others) sorts ∙ ap (λ d. word_by (sort_of_word w) d f.others) first ∙ ap (word_by (sort_of_word w) k.byte) others in
    some_word v w (sym one ∙ both ∙ two)

-- the longest word where it stands is the one that is found
pub word-only : (word : Word) (back : List ℕ) (b : ℕ) (rest : List ℕ) → IsWord word → IsLongest word back → word_bytes word ++ back ≡ b ∷ rest → word_at b rest ≡ Some word
word-only word back b rest h longest e =
    let r = word-reach word back b rest h e in
    let stands = subst (StandsIn (b ∷ rest)) r.1 (word-stands b rest) in
    let most = longest r.0 stands.0 stands.2 (sym stands.1 ∙ sym e) in
    let bytes = prefix-one (word_bytes word) (word_bytes r.0) back stands.0 (omega (arith, most, r.2)) (e ∙ stands.1) in
    r.1 ∙ ap (λ w. Some w) (sym (word-one word r.0 h stands.2 bytes))
