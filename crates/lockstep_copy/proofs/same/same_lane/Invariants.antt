use Rattle.std.proofs.Common.{◌≡◌, length, take, map}
use Rattle.v_design.specs.Plain.{update_of}
use Rattle.lockstep_copy.proofs.same.same_lane.Given as goal

-- the lists are as long, and equal so far
abbrev pub invariant-updates : goal.invariant-updates
invariant-updates l = (length l.one ≡ length l.other) × (map update_of (take l.place l.one) ≡ map update_of (take l.place l.other))
