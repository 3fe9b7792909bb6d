-- A text that is cut at the first byte of a kind.
use Rattle.std.proofs.Common.{arith, ◌≡◌, ℕ, ◌<◌, List, [], ◌∷◌, ◌++◌, length, true, false, All, refl, sym, ◌∙◌, ap, filter, append_assoc}
use Rattle.std.specs.List.{slice_split, AllByRecursion}
use Rattle.std.proofs.lemmas.List.Splits.{slice_split_at, slice_split_none, length-slice_split}
use Rattle.std.proofs.lemmas.List.Elements.{All-from_recursion}
use Rattle.text_lines.specs.Text.{is_space, is_line_feed, is_word, kept, without_return, lines_of_pieces, lines_of}

-- the words between spaces
abbrev pub pieces_of : List ℕ → List (List ℕ)
pieces_of text = filter is_word (slice_split is_space text)

filter-kept : (xs : List ℕ) (pieces : List (List ℕ)) → filter is_word (xs ∷ pieces) ≡ kept xs ++ filter is_word pieces
filter-kept [] pieces = refl
filter-kept (b ∷ bs) pieces = refl

append-none : (xs : List (List ℕ)) → xs ++ [] ≡ xs
append-none [] = refl
append-none (x ∷ xs) = ap (λ l. x ∷ l) (append-none xs)

words-cut : (text word rest : List ℕ) (b : ℕ) → text ≡ word ++ b ∷ rest → AllByRecursion (λ c. is_space c ≡ false) word → is_space b ≡ true → pieces_of text ≡ kept word ++ pieces_of rest
words-cut text word rest b e none space =
    let all : All (λ c. is_space c ≡ false) word = All-from_recursion (λ c. is_space c ≡ false) word none in
    ap pieces_of e ∙ (ap (λ pieces. filter is_word pieces) (slice_split_at is_space word b rest all space) ∙ filter-kept word (slice_split is_space rest))

words-last : (text : List ℕ) → AllByRecursion (λ c. is_space c ≡ false) text → pieces_of text ≡ kept text
words-last text none =
    let all : All (λ c. is_space c ≡ false) text = All-from_recursion (λ c. is_space c ≡ false) text none in
    ap (λ pieces. filter is_word pieces) (slice_split_none is_space text all) ∙ (filter-kept text [] ∙ append-none (kept text))

-- one word more is read
pub words-more : (before now whole : List (List ℕ)) (text word rest : List ℕ) (b : ℕ) → before ++ pieces_of text ≡ whole → now ≡ before ++ kept word → text ≡ word ++ b ∷ rest →
    AllByRecursion (λ c. is_space c ≡ false) word → is_space b ≡ true → now ++ pieces_of rest ≡ whole
words-more before now whole text word rest b inv is e none space =
    ap (λ l. l ++ pieces_of rest) is ∙ (append_assoc before (kept word) (pieces_of rest) ∙ (ap (λ l. before ++ l) (sym (words-cut text word rest b e none space)) ∙ inv))

-- the last word is read
pub words-end : (before now whole : List (List ℕ)) (text : List ℕ) → before ++ pieces_of text ≡ whole → now ≡ before ++ kept text → AllByRecursion (λ c. is_space c ≡ false) text → now ≡ whole
words-end before now whole text inv is none = is ∙ (ap (λ l. before ++ l) (sym (words-last text none)) ∙ inv)

-- a list of pieces has a first one
pieces-first : (line : List ℕ) (pieces : List (List ℕ)) (first : List ℕ) (more : List (List ℕ)) → pieces ≡ first ∷ more → lines_of_pieces (line ∷ pieces) ≡ without_return line ∷ lines_of_pieces pieces
pieces-first line pieces first more e = rw e refl

first-of : (pieces : List (List ℕ)) → 0 < length pieces → (first : List ℕ) × (more : List (List ℕ)) × (pieces ≡ first ∷ more)
first-of [] some = absurd (omega arith)
first-of (first ∷ more) some = (first, more, refl)

split-first : (text : List ℕ) → (first : List ℕ) × (more : List (List ℕ)) × (slice_split is_line_feed text ≡ first ∷ more)
split-first text = first-of (slice_split is_line_feed text) (rw (length-slice_split is_line_feed text) (omega arith))

lines-cut : (text line rest : List ℕ) (b : ℕ) → text ≡ line ++ b ∷ rest → AllByRecursion (λ c. is_line_feed c ≡ false) line → is_line_feed b ≡ true →
    lines_of text ≡ without_return line ∷ lines_of rest
lines-cut text line rest b e none ends =
    let all : All (λ c. is_line_feed c ≡ false) line = All-from_recursion (λ c. is_line_feed c ≡ false) line none in
    let first = split-first rest in
    ap lines_of e ∙ (ap lines_of_pieces (slice_split_at is_line_feed line b rest all ends) ∙ pieces-first line (slice_split is_line_feed rest) first.0 first.1 first.2)

lines-last : (text : List ℕ) → AllByRecursion (λ c. is_line_feed c ≡ false) text → lines_of text ≡ kept text
lines-last text none =
    let all : All (λ c. is_line_feed c ≡ false) text = All-from_recursion (λ c. is_line_feed c ≡ false) text none in
    ap lines_of_pieces (slice_split_none is_line_feed text all)

-- one line more is read
pub lines-more : (before now whole : List (List ℕ)) (text line rest : List ℕ) (b : ℕ) → before ++ lines_of text ≡ whole → now ≡ before ++ without_return line ∷ [] → text ≡ line ++ b ∷ rest →
    AllByRecursion (λ c. is_line_feed c ≡ false) line → is_line_feed b ≡ true → now ++ lines_of rest ≡ whole
lines-more before now whole text line rest b inv is e none ends =
    ap (λ l. l ++ lines_of rest) is ∙ (append_assoc before (without_return line ∷ []) (lines_of rest) ∙ (ap (λ l. before ++ l) (sym (lines-cut text line rest b e none ends)) ∙ inv))

-- the last line is read
pub lines-end : (before now whole : List (List ℕ)) (text : List ℕ) → before ++ lines_of text ≡ whole → now ≡ before ++ kept text → AllByRecursion (λ c. is_line_feed c ≡ false) text → now ≡ whole
lines-end before now whole text inv is none = is ∙ (ap (λ l. before ++ l) (sym (lines-last text none)) ∙ inv)
