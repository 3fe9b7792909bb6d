-- Words of another number than three to six are of no form.
use Rattle.std.proofs.Common.{◌≡◌, ℕ, ◌<◌, ◌≤◌, List, [], ◌∷◌, None, length, refl, arith}
use Rattle.std.proofs.lemmas.Bool.{ltb-true, ltb-false}
use Rattle.std.proofs.lemmas.List.{length-map}
use Rattle.std.specs.String.{string_bytes}
use Rattle.vf_words.specs.Words.{form_of, bytes_of}
use Rattle.vf_words.proofs.words.form_of.Goals as goal
use Rattle.vf_words.proofs.words.form_of.Goals.{in_default-via-then-words-lt3, in_default-via-else-words-lt3+else-words-lt4+else-words-lt5+else-words-lt6+else-words-lt7}

none-short : (words : List (List ℕ)) → length words < 3 → None ≡ form_of words
none-short [] few = refl
none-short (a ∷ []) few = refl
none-short (a ∷ b ∷ []) few = refl
none-short (a ∷ b ∷ c ∷ rest) few = absurd (omega (arith, few))

none-long : (words : List (List ℕ)) → 7 ≤ length words → None ≡ form_of words
none-long [] many = absurd (omega (arith, many))
none-long (a ∷ []) many = absurd (omega (arith, many))
none-long (a ∷ b ∷ []) many = absurd (omega (arith, many))
none-long (a ∷ b ∷ c ∷ []) many = absurd (omega (arith, many))
none-long (a ∷ b ∷ c ∷ d ∷ []) many = absurd (omega (arith, many))
none-long (a ∷ b ∷ c ∷ d ∷ e ∷ []) many = absurd (omega (arith, many))
none-long (a ∷ b ∷ c ∷ d ∷ e ∷ f ∷ []) many = absurd (omega (arith, many))
none-long (a ∷ b ∷ c ∷ d ∷ e ∷ f ∷ g ∷ rest) many = refl

pub returns-in_default : goal.returns-in_default
returns-in_default c = let count = length-map c.args.words.now string_bytes in elim c.in_default.branch [
  | in_default-via-then-words-lt3 w ↦ none-short (bytes_of c.args.words.now) (omega (arith, ltb-true, count))
  | in_default-via-else-words-lt3+else-words-lt4+else-words-lt5+else-words-lt6+else-words-lt7 w ↦ none-long (bytes_of c.args.words.now) (omega (arith, ltb-false, count))
]
