-- A list with a token of one class between its elements.
use Rattle.std.specs.Prelude.{◌≡◌, List, [], ◌∷◌, ◌++◌, Option, Some, None, if◌then◌else◌}
use Rattle.vf_base.specs.Base.{SourcePlace}
use Rattle.v_tree.specs.Tokens.{SourceToken}
use Rattle.v_readers.specs.declared.class.Class.{Class}
use Rattle.v_readers.specs.Classes.{token_of}
use Rattle.v_readers.specs.Reading.{Reader, ◌>>=◌, give, by_class, is_class, step, repeat}

-- these tokens spell the elements, a mark before each
abbrev pub SpellsBehind : {A : Type 0} → (A → List SourceToken → Type 0) → Class → List A → List SourceToken → Type 0
SpellsBehind L separator [] ts = ts ≡ []
SpellsBehind L separator (x ∷ xs) ts =
    (place : SourcePlace) × (before after : List SourceToken) × L x before × SpellsBehind L separator xs after
    × (ts ≡ token_of separator place ∷ (before ++ after))

-- these tokens spell the elements, one at least, with a mark between them
abbrev pub SpellsList : {A : Type 0} → (A → List SourceToken → Type 0) → Class → List A → List SourceToken → Type 0
SpellsList L separator [] ts = ⊥
SpellsList L separator (x ∷ xs) ts =
    (before after : List SourceToken) × L x before × SpellsBehind L separator xs after × (ts ≡ before ++ after)

-- one more element behind its mark, or the end
abbrev pub element_by : {A : Type 0} → Class → Reader A → List A → Option Class → Reader (Option (List A))
element_by separator element xs class = if is_class separator class then (step >>= λ place. element >>= λ x. give (Some (xs ++ x ∷ []))) else give None

abbrev pub element_turn : {A : Type 0} → Class → Reader A → List A → Reader (Option (List A))
element_turn separator element xs = by_class (element_by separator element xs)

unfoldable pub separated : {A : Type 0} → Class → Reader A → Reader (List A)
separated separator element = element >>= λ x. repeat (element_turn separator element) (x ∷ [])
