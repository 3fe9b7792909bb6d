use Rattle.std.proofs.Common.{◌≡◌, length, take, map}
use Rattle.v_design.specs.Plain.{due_of}
use Rattle.lockstep_copy.proofs.same.same_later.Given as goal

-- the lists are as long, and equal so far
abbrev pub invariant-updates : goal.invariant-updates
invariant-updates l = (length l.one ≡ length l.other) × (map due_of (take l.place l.one) ≡ map due_of (take l.place l.other))
