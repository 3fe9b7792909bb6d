use Rattle.std.proofs.Common.{◌≡◌, length, map, take}
use Rattle.v_design.specs.Plain.{due_of}
use Rattle.lockstep_laws.specs.Lockstep.{due_times}
use Rattle.lockstep_due.proofs.due.have_same_times.Given as goal

-- the lists are as long, and so far due at the same times
abbrev pub invariant-updates : goal.invariant-updates
invariant-updates l = (length l.one ≡ length l.other) × (due_times (map due_of (take l.place l.one)) ≡ due_times (map due_of (take l.place l.other)))
