use Rattle.std.proofs.Common.{◌≡◌, length, take, map}
use Rattle.std.specs.Prelude.{option_map}
use Rattle.v_design.specs.Plain.{update_of}
use Rattle.process_code.proofs.same.same_updates.Given as goal

-- the lists are as long, and equal so far
abbrev pub invariant-updates : goal.invariant-updates
invariant-updates l = (length l.one ≡ length l.other) × (map (option_map update_of) (take l.place l.one) ≡ map (option_map update_of) (take l.place l.other))
