-- What the code's lines and words stand for (nothing of the language).
use Rattle.std.specs.Prelude.{ℕ, List, map}
use Rattle.std.specs.Borrow.{Bor}

-- lines or words as bytes
abbrev pub plain_texts : List (Bor (List ℕ)) → List (List ℕ)
plain_texts texts = map (λ text. text.now) texts
