-- What settling the words of faults changes of what a seat knows (nothing of the language).
use Rattle.std.specs.Prelude.{◌≡◌, ℕ, ◌⊎◌, List}
use Rattle.std.specs.List.{Contains}
use Rattle.vf_base.specs.Base.{fault_number}
use Rattle.verdict_words.specs.Settled.{Told}
use Rattle.verdict_words.specs.declared.board.steps.Settled.{Settled}
use Rattle.verdict_words.specs.Views.{mark}
use Rattle.verdict_words.specs.declared.view.View.{View}
use Rattle.verdict_words.specs.declared.view.Mark.{Mark}

-- the fault's word was seen
abbrev pub IsSeen : List Mark → ℕ → Type 0
IsSeen seen fault = (code : ℕ) × Contains seen (mark fault code)

-- the claims that a seat drew, its share, its calls and whether it is dry are as they were
pub record KeepsClaims (before after : View) : Type 0 where
  pub claimed : after.claimed ≡ before.claimed
  pub share : after.share ≡ before.share
  pub calls : after.calls ≡ before.calls
  pub dry : after.dry ≡ before.dry

-- the word of a fault was settled: moved by this call, or found moved before; so it was seen
abbrev pub IsSettled : ℕ → View → View → Type 0
IsSettled fault before after = (code : ℕ) × (answer : Settled) × Told fault code before answer after

-- the words of some faults were settled: each was seen, what was seen before still is, and no other word was moved
pub record AreSettled (faults : List ℕ) (before after : View) : Type 0 where
  pub seen : (fault : ℕ) → Contains faults fault → IsSeen after.seen fault
  pub still : (m : Mark) → Contains before.seen m → Contains after.seen m
  pub moved : (m : Mark) → Contains after.moved m → Contains before.moved m ⊎ Contains faults (fault_number m.fault)
