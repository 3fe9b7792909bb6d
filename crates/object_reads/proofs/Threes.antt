-- Lists that three calls put behind each other.
use Rattle.std.proofs.Common.{◌≡◌, ℕ, List, ◌++◌, ap, ◌∙◌}
use Rattle.std.proofs.lemmas.List.{append_assoc}

pub three : (old a b c first second third : List ℕ) → first ≡ old ++ a → second ≡ first ++ b → third ≡ second ++ c → third ≡ old ++ (a ++ (b ++ c))
three old a b c first second third one two last =
    last ∙ ap (λ l. l ++ c) (two ∙ ap (λ l. l ++ b) one) ∙ append_assoc (old ++ a) b c ∙ append_assoc old a (b ++ c)
