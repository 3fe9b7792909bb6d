-- What the answer of `settle` tells (nothing of the language).
use Rattle.std.specs.Prelude.{◌≡◌, ℕ}
use Rattle.verdict_words.specs.declared.view.View.{View}
use Rattle.verdict_words.specs.Views.{with_moved, with_seen}
use Rattle.verdict_words.specs.declared.board.steps.Settled.{Settled}
use Rattle.verdict_words.specs.declared.board.steps.Settled.TheVariants.{Moved, Was}

-- the first fact where the answer is Moved, and the second of the code where it is Was
abbrev pub MatchSettled : Settled → Type 0 → (ℕ → Type 0) → Type 0
MatchSettled Moved p q = p
MatchSettled (Was code) p q = q code

-- Of a fault, its code, the view before, the answer and the view after: Moved where this call moved the word, which is known of one call alone,
-- and Was where the word was moved before, with its code, which is the same.
abbrev pub Told : ℕ → ℕ → View → Settled → View → Type 0
Told fault code before answer after =
    MatchSettled answer (after ≡ with_moved fault code before) (λ was. (was ≡ code) × (after ≡ with_seen fault code before))

-- of two answers one is Moved, and the other is Was with the code
abbrev pub OneMoved : ℕ → Settled → Settled → Type 0
OneMoved code Moved Moved = ⊥
OneMoved code Moved (Was c) = c ≡ code
OneMoved code (Was c) Moved = c ≡ code
OneMoved code (Was c) (Was d) = ⊥
