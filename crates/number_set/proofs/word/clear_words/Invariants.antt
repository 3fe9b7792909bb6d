use Rattle.std.proofs.Common.{◌≡◌, ◌<◌, ◌≤◌, ℕ, get_or, vec_len}
use Rattle.number_set.proofs.word.clear_words.Given as goal

abbrev pub invariant-words : goal.invariant-words
invariant-words l = record {
  same : vec_len l.words ≡ vec_len l.initial.words;
  below : (place : ℕ) → place < l.place → get_or l.words.items place 0 ≡ 0;
  above : (place : ℕ) → l.past ≤ place → get_or l.words.items place 0 ≡ 0;
}
