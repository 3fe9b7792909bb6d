use Rattle.std.proofs.Common.{◌≡◌, ◌<◌, ◌≤◌, ◌-◌, ℕ, false, length, get_or}
use Rattle.process_table.proofs.set.least_from.Given as goal

abbrev pub invariant-members : goal.invariant-members
invariant-members l = record {
  above : l.from ≤ l.number;
  within : l.number ≤ length l.members;
  none : (n : ℕ) → l.from ≤ n → n < l.number → get_or l.members n false ≡ false;
}

abbrev pub decreases-members : goal.decreases-members
decreases-members l = length l.members - l.number
