use Rattle.std.proofs.Common.{◌≡◌, length, take, map}
use Rattle.lockstep_copy.specs.Kept.{time_of}
use Rattle.lockstep_copy.proofs.same.same_times.Given as goal

-- the lists are as long, and equal so far
abbrev pub invariant-updates : goal.invariant-updates
invariant-updates l = (length l.one ≡ length l.other) × (map time_of (take l.place l.one) ≡ map time_of (take l.place l.other))
