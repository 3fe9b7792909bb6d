-- What each step of a board tells the seat that makes it (nothing of the language).
use Rattle.std.specs.Prelude.{◌≡◌, ◌≢◌, ℕ, ◌≤◌, nat_lt, nat_eq, cond, List, Contains}
use Rattle.atomic_table.specs.Table.{Me, Step}
use Rattle.verdict_words.specs.declared.view.View.{View}
use Rattle.verdict_words.specs.declared.view.Mark.{Mark}
use Rattle.verdict_words.specs.Codes.{code_of}
use Rattle.verdict_words.specs.Views.{mark, with_claim, with_none, with_seen, with_moved}

-- what `claim` makes of a view, where it finds the counter at a number
abbrev pub after_claim : ℕ → ℕ → View → View
after_claim claims found v = cond (nat_lt found claims) (with_claim found v) (with_none v)

-- what `settle` makes of a view, where it finds the fault's word at a number
abbrev pub after_settle : ℕ → ℕ → ℕ → View → View
after_settle fault code found v = cond (nat_eq found 0) (with_moved fault code v) (with_seen fault found v)

-- what `look` makes of a view, where it finds the fault's word at a number
abbrev pub after_look : ℕ → ℕ → View → View
after_look fault found v = cond (nat_eq found 0) v (with_seen fault found v)

-- a word that was found is 0 or the code of the fault's grade, and the code that was seen of it, if one was
pub record Found (codes : List ℕ) (fault : ℕ) (seen : List Mark) (found : ℕ) : Type 0 where
  pub graded : found ≢ 0 → found ≡ code_of codes fault
  pub again : (code : ℕ) → Contains seen (mark fault code) → (found ≡ code) × (code ≢ 0)

-- a seat: its view, and the slots that it holds, which are none
abbrev pub Holder : Type 0
Holder = Me (Unit {0}) View

-- what `claim` is told of its step, the seat before, the number found and the seat after
abbrev pub Claimed : ℕ → Step (Unit {0}) → Holder → ℕ → Holder → Type 0
Claimed claims st before found after = (after.0 ≡ after_claim claims found before.0) × (after.1 ≡ before.1) × (before.0.calls ≤ found)

-- what `settle` is told
pub record Settles (codes : List ℕ) (fault code : ℕ) (st : Step (Unit {0})) (before : Holder) (found : ℕ) (after : Holder) : Type 0 where
  pub view : after.0 ≡ after_settle fault code found before.0
  pub slots : after.1 ≡ before.1
  pub was : Found codes fault before.0.seen found

-- what `look` is told
pub record Looks (codes : List ℕ) (fault : ℕ) (st : Step (Unit {0})) (before : Holder) (found : ℕ) (after : Holder) : Type 0 where
  pub view : after.0 ≡ after_look fault found before.0
  pub slots : after.1 ≡ before.1
  pub was : Found codes fault before.0.seen found
