-- A text that is cut at each separator.
use Rattle.std.proofs.Common.{◌≡◌, ℕ, ◌+◌, List, [], ◌∷◌, ◌++◌, length, false, All, Option, Some, None, refl, sym, ◌∙◌, ap, append_assoc, arith}
use Rattle.std.specs.Prelude.{nat_eq, count_by}
use Rattle.std.specs.Borrow.{Bor}
use Rattle.std.specs.List.{slice_split, AllByRecursion}
use Rattle.std.proofs.lemmas.Bool.{eq-eqb}
use Rattle.std.proofs.lemmas.List.Splits.{slice_split_at, slice_split_none, length-slice_split}
use Rattle.std.proofs.lemmas.List.Elements.{All-from_recursion}
use Rattle.cert_laws.specs.Claims.{parts_of, is_dot, moment_by, moment_of}
use Rattle.cert_laws.specs.Valid.{Formless, line_by, line_of}
use Rattle.cert_text.specs.Views.{split_behind}

-- the first part ends at the first separator
pub cut-at : (separator : ℕ) (text part rest : List ℕ) (b : ℕ) → text ≡ part ++ b ∷ rest → AllByRecursion (λ c. nat_eq c separator ≡ false) part → b ≡ separator →
    slice_split (λ c. nat_eq c separator) text ≡ part ∷ slice_split (λ c. nat_eq c separator) rest
cut-at separator text part rest b e none is =
    let all : All (λ c. nat_eq c separator ≡ false) part = All-from_recursion (λ c. nat_eq c separator ≡ false) part none in
    ap (slice_split (λ c. nat_eq c separator)) e ∙ slice_split_at (λ c. nat_eq c separator) part b rest all (eq-eqb b separator is)

-- without a separator there is one part
pub cut-none : (separator : ℕ) (text : List ℕ) → AllByRecursion (λ c. nat_eq c separator ≡ false) text → slice_split (λ c. nat_eq c separator) text ≡ text ∷ []
cut-none separator text none =
    slice_split_none (λ c. nat_eq c separator) text (All-from_recursion (λ c. nat_eq c separator ≡ false) text none)

-- how much is left
abbrev pub left : Option (Bor (List ℕ)) → ℕ
left None = 0
left (Some rest) = length rest.now + 1

-- one part more is read
pub parts-more : (before now whole : List (List ℕ)) (text part : List ℕ) (more : Option (Bor (List ℕ))) → before ++ parts_of text ≡ whole → now ≡ before ++ part ∷ [] →
    parts_of text ≡ part ∷ split_behind 32 more → now ++ split_behind 32 more ≡ whole
parts-more before now whole text part more inv is cut =
    ap (λ l. l ++ split_behind 32 more) is
    ∙ (append_assoc before (part ∷ []) (split_behind 32 more) ∙ (ap (λ l. before ++ l) (sym cut) ∙ inv))

-- A line is cut on

-- there is a first part
split-first : (separator : ℕ) (text : List ℕ) → (first : List ℕ) × (more : List (List ℕ)) × (slice_split (λ c. nat_eq c separator) text ≡ first ∷ more)
split-first separator text = first-of (slice_split (λ c. nat_eq c separator) text) (length-slice_split (λ c. nat_eq c separator) text)
  where
    first-of : (parts : List (List ℕ)) → length parts ≡ count_by (λ c. nat_eq c separator) text + 1 → (first : List ℕ) × (more : List (List ℕ)) × (parts ≡ first ∷ more)
    first-of [] some = absurd (omega arith)
    first-of (first ∷ more) some = (first, more, refl)

-- behind a separator the parts go on
cut-on : (separator : ℕ) (text part : List ℕ) (more : Option (Bor (List ℕ))) (rest : Bor (List ℕ)) →
    slice_split (λ c. nat_eq c separator) text ≡ part ∷ split_behind separator more → more ≡ Some rest →
    slice_split (λ c. nat_eq c separator) text ≡ part ∷ slice_split (λ c. nat_eq c separator) rest.now
cut-on separator text part more rest cut is = cut ∙ ap (λ o. part ∷ split_behind separator o) is

-- four parts are of no form
pub line-long : (line a b c : List ℕ) (one two three : Option (Bor (List ℕ))) (rest later last : Bor (List ℕ)) → parts_of line ≡ a ∷ split_behind 32 one → one ≡ Some rest →
    parts_of rest.now ≡ b ∷ split_behind 32 two → two ≡ Some later → parts_of later.now ≡ c ∷ split_behind 32 three → three ≡ Some last → Formless ≡ line_of line
line-long line a b c one two three rest later last cut is cut' is' cut'' is'' =
    let end = split-first 32 last.now in
    let further : parts_of later.now ≡ c ∷ end.0 ∷ end.1 = cut-on 32 later.now c three last cut'' is'' ∙ ap (λ l. c ∷ l) end.2 in
    let all : parts_of line ≡ a ∷ b ∷ c ∷ end.0 ∷ end.1 =
    cut-on 32 line a one rest cut is ∙ ap (λ l. a ∷ l) (cut-on 32 rest.now b two later cut' is' ∙ ap (λ l. b ∷ l) further) in
    sym (ap line_by all)

-- three parts are no moment
pub moment-long : (word a b : List ℕ) (one two : Option (Bor (List ℕ))) (rest last : Bor (List ℕ)) → slice_split is_dot word ≡ a ∷ split_behind 46 one → one ≡ Some rest →
    slice_split is_dot rest.now ≡ b ∷ split_behind 46 two → two ≡ Some last → None ≡ moment_of word
moment-long word a b one two rest last cut is cut' is' =
    let end = split-first 46 last.now in
    let all : slice_split is_dot word ≡ a ∷ b ∷ end.0 ∷ end.1 =
    cut-on 46 word a one rest cut is ∙ ap (λ l. a ∷ l) (cut-on 46 rest.now b two last cut' is' ∙ ap (λ l. b ∷ l) end.2) in
    sym (ap moment_by all)
