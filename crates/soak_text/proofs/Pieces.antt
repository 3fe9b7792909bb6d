-- The pieces of a text, joined from the right as a format writes them, and from the left as a line is defined (nothing of the language).
use Rattle.std.proofs.Common.{◌≡◌, ℕ, List, [], ◌∷◌, ◌++◌, refl, ap, sym, ◌∙◌, append_assoc}

abbrev pub rightwards : List ℕ → List (List ℕ) → List ℕ
rightwards first [] = first
rightwards first (piece ∷ pieces) = first ++ rightwards piece pieces

abbrev pub leftwards : List ℕ → List (List ℕ) → List ℕ
leftwards first [] = first
leftwards first (piece ∷ pieces) = leftwards (first ++ piece) pieces

leftwards-append : (start first : List ℕ) (pieces : List (List ℕ)) → leftwards (start ++ first) pieces ≡ start ++ leftwards first pieces
leftwards-append start first [] = refl
leftwards-append start first (piece ∷ pieces) = ap (λ l. leftwards l pieces) (append_assoc start first piece) ∙ leftwards-append start (first ++ piece) pieces

pub pieces-joined : (first : List ℕ) (pieces : List (List ℕ)) → rightwards first pieces ≡ leftwards first pieces
pieces-joined first [] = refl
pieces-joined first (piece ∷ pieces) = ap (λ l. first ++ l) (pieces-joined piece pieces) ∙ sym (leftwards-append first piece pieces)
