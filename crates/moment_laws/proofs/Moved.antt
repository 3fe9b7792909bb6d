-- Of four numbers that are the same (nothing of the language).
use Rattle.std.proofs.Common.{◌≡◌, ℕ, subst}

pub move4 : (P : ℕ → ℕ → ℕ → ℕ → Type 0) (a b c d a' b' c' d' : ℕ) → a ≡ a' → b ≡ b' → c ≡ c' → d ≡ d' → P a b c d → P a' b' c' d'
move4 P a b c d a' b' c' d' e f g h x = subst (λ n. P a' b' c' n) h (subst (λ n. P a' b' n d) g (subst (λ n. P a' n c d) f (subst (λ n. P n b c d) e x)))
