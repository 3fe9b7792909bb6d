use Rattle.std.proofs.Common.{◌≡◌, ◌*◌, ◌<◌, ◌≤◌, ℕ, false}
use Rattle.number_set.specs.Members.{is_set}
use Rattle.number_set.proofs.word.first_set.Given as goal

abbrev pub invariant-words : goal.invariant-words
invariant-words l = (m : ℕ) → l.from ≤ m → m < l.place * 64 → is_set l.words m ≡ false
