-- So far each is in one of the lists.
use Rattle.std.proofs.Common.{◌≡◌, ℕ, true, ◌||◌, map, take}
use Rattle.vf_base.specs.Base.{process_number}
use Rattle.vf_base.specs.Lists.{has}
use Rattle.block_compare.proofs.alike.are_in.Given as goal

abbrev pub invariant-processes : goal.invariant-processes
invariant-processes l =
    (process : ℕ) → has (map process_number (take l.place l.some)) process ≡ true →
    (has (map process_number l.one) process || has (map process_number l.other) process) ≡ true
