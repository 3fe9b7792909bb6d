use Rattle.std.proofs.Common.{◌≡◌, ◌<◌, ℕ, false, length, get_or}
use Rattle.process_table.proofs.set.clear_members.Given as goal

abbrev pub invariant-numbers : goal.invariant-numbers
invariant-numbers l = record {
  long : length l.members.items ≡ length l.initial.members.items;
  none : (k : ℕ) → k < l.number → get_or l.members.items k false ≡ false;
}
