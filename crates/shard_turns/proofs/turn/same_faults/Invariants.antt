use Rattle.std.proofs.Common.{◌≡◌, length, take}
use Rattle.shard_turns.proofs.turn.same_faults.Given as goal

-- the lists are as long, and the same so far
abbrev pub invariant-faults : goal.invariant-faults
invariant-faults l = (length l.one ≡ length l.other) × (take l.place l.one ≡ take l.place l.other)
