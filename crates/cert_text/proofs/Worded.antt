-- Lines of words, as they are written and as they are read.
use Rattle.std.proofs.Common.{◌≡◌, ℕ, ◌+◌, ◌-◌, ◌&&◌, ◌||◌, List, [], ◌∷◌, ◌++◌, Bool, false, length, get_or, map, refl, ◌∙◌, ap, append_assoc, arith}
use Rattle.std.specs.Prelude.{nat_eq, nat_lt, count_by}
use Rattle.std.specs.List.{slice_split, AllByRecursion}
use Rattle.std.proofs.lemmas.Bool.{or_parts, or_from, and_right, cond-false}
use Rattle.std.proofs.lemmas.List.Splits.{slice_split_at, slice_split_none, length-slice_split}
use Rattle.std.proofs.lemmas.List.Elements.{All-from_recursion, All-get_or}
use Rattle.vf_base.specs.Lists.{AllHold, joined}
use Rattle.v_design.specs.WellFormed.{IsOneWord}
use Rattle.text_lines.specs.Text.{is_line_feed, without_return, lines_of_pieces, lines_of}
use Rattle.cert_laws.specs.Claims.{is_blank, parts_of, spaced}

-- words with single blanks between
abbrev pub in_words : List (List ℕ) → List ℕ
in_words [] = []
in_words (word ∷ []) = word
in_words (word ∷ next ∷ words) = spaced word (in_words (next ∷ words))

-- each of them is a word
abbrev pub AreWords : List (List ℕ) → Type 0
AreWords words = AllHold IsOneWord words

-- Parts

no-blank : (word : List ℕ) → IsOneWord word → AllByRecursion (λ b. is_blank b ≡ false) word
no-blank [] h = tt
no-blank (b ∷ bs) h = ((or_parts (nat_eq b 9 || nat_eq b 10 || nat_eq b 13) (nat_eq b 32) h.0).1, no-blank bs h.1)

-- a line of words has just these parts
pub parts-words : (word : List ℕ) (words : List (List ℕ)) → AreWords (word ∷ words) → parts_of (in_words (word ∷ words)) ≡ word ∷ words
parts-words word [] h = slice_split_none is_blank word (All-from_recursion (λ b. is_blank b ≡ false) word (no-blank word h.0))
parts-words word (next ∷ words) h =
    slice_split_at is_blank word 32 (in_words (next ∷ words)) (All-from_recursion (λ b. is_blank b ≡ false) word (no-blank word h.0)) refl
    ∙ ap (λ l. word ∷ l) (parts-words next words h.1)

-- Lines

-- whether a byte ends a line
abbrev ends_line : ℕ → Bool
ends_line b = nat_eq b 10 || nat_eq b 13

abbrev IsLine : List ℕ → Type 0
IsLine line = AllHold (λ (b : ℕ). ends_line b ≡ false) line

line-append : (one other : List ℕ) → IsLine one → IsLine other → IsLine (one ++ other)
line-append [] other h k = k
line-append (b ∷ bs) other h k = (h.0, line-append bs other h.1 k)

word-line : (word : List ℕ) → IsOneWord word → IsLine word
word-line [] h = tt
word-line (b ∷ bs) h =
    let most = or_parts (nat_eq b 9 || nat_eq b 10 || nat_eq b 13) (nat_eq b 32) h.0 in
    let more = or_parts (nat_eq b 9 || nat_eq b 10) (nat_eq b 13) most.0 in
    (or_from (nat_eq b 10) (nat_eq b 13) (or_parts (nat_eq b 9) (nat_eq b 10) more.0).1 more.1, word-line bs h.1)

words-line : (words : List (List ℕ)) → AreWords words → IsLine (in_words words)
words-line [] h = tt
words-line (word ∷ []) h = word-line word h.0
words-line (word ∷ next ∷ words) h = line-append word (32 ∷ in_words (next ∷ words)) (word-line word h.0) (refl, words-line (next ∷ words) h.1)

no-feed : (line : List ℕ) → IsLine line → AllByRecursion (λ b. is_line_feed b ≡ false) line
no-feed [] h = tt
no-feed (b ∷ bs) h = ((or_parts (nat_eq b 10) (nat_eq b 13) h.0).0, no-feed bs h.1)

no-return : (line : List ℕ) → IsLine line → AllByRecursion (λ b. nat_eq b 13 ≡ false) line
no-return [] h = tt
no-return (b ∷ bs) h = ((or_parts (nat_eq b 10) (nat_eq b 13) h.0).1, no-return bs h.1)

kept-whole : (line : List ℕ) → IsLine line → without_return line ≡ line
kept-whole [] h = refl
kept-whole (b ∷ bs) h =
    let line = b ∷ bs in
    let last : nat_eq (get_or line (length line - 1) 0) 13 ≡ false =
    All-get_or (λ b. nat_eq b 13 ≡ false) line (length line - 1) 0 (omega arith) (All-from_recursion (λ b. nat_eq b 13 ≡ false) line (no-return line h)) in
    cond-false (nat_lt 0 (length line) && nat_eq (get_or line (length line - 1) 0) 13) _ line (and_right (nat_lt 0 (length line)) (nat_eq (get_or line (length line - 1) 0) 13) last)

pieces-first : (line text : List ℕ) (pieces : List (List ℕ)) → length pieces ≡ count_by is_line_feed text + 1 → lines_of_pieces (line ∷ pieces) ≡ without_return line ∷ lines_of_pieces pieces
pieces-first line text [] some = absurd (omega arith)
pieces-first line text (first ∷ more) some = refl

-- a line before others
pub lines-first : (words : List (List ℕ)) (rest : List ℕ) → AreWords words → lines_of (in_words words ++ 10 ∷ rest) ≡ in_words words ∷ lines_of rest
lines-first words rest h =
    let line = in_words words in
    let is_line = words-line words h in
    ap lines_of_pieces (slice_split_at is_line_feed line 10 rest (All-from_recursion (λ b. is_line_feed b ≡ false) line (no-feed line is_line)) refl)
    ∙ (pieces-first line rest (slice_split is_line_feed rest) (length-slice_split is_line_feed rest) ∙ ap (λ l. l ∷ lines_of rest) (kept-whole line is_line))

-- Texts

-- a line with its line feed
abbrev pub ended : List (List ℕ) → List ℕ
ended words = in_words words ++ 10 ∷ []

-- a text of lines of words has just these lines
pub lines-text : (lines : List (List (List ℕ))) → AllHold AreWords lines → lines_of (joined (map ended lines)) ≡ map in_words lines
lines-text [] h = refl
lines-text (words ∷ lines) h =
    ap lines_of (append_assoc (in_words words) (10 ∷ []) (joined (map ended lines)))
    ∙ (lines-first words (joined (map ended lines)) h.0 ∙ ap (λ l. in_words words ∷ l) (lines-text lines h.1))
