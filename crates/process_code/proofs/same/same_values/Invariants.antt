use Rattle.std.proofs.Common.{◌≡◌, length, take}
use Rattle.process_code.proofs.same.same_values.Given as goal

-- the lists are as long, and equal so far
abbrev pub invariant-values : goal.invariant-values
invariant-values l = (length l.one ≡ length l.other) × (take l.place l.one ≡ take l.place l.other)
