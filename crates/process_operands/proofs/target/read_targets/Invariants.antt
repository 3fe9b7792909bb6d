use Rattle.std.proofs.Common.{◌≡◌, ◌≤◌, ◌++◌, drop, map, length}
use Rattle.std.specs.Prelude.{option_map, vec_capacity}
use Rattle.v_design.specs.Plain.{target_of, update_of}
use Rattle.v_design.specs.Assignments.{targets_width, target_updates, read_indexes}
use Rattle.process_operands.specs.Sought.{got}
use Rattle.process_operands.proofs.target.read_targets.Given as goal

abbrev pub invariant-targets : goal.invariant-targets
invariant-targets l =
    record {
      left : l.left ≡ targets_width (map target_of (drop l.target-index l.targets));
      got : got (λ indexes. target_updates l.line (map target_of l.targets) indexes l.bits) (read_indexes (map target_of l.targets) (drop l.fn.used l.operands))
          ≡ got (λ indexes. map (option_map update_of) l.updates.items ++ target_updates l.line (map target_of (drop l.target-index l.targets)) indexes l.bits)
          (read_indexes (map target_of (drop l.target-index l.targets)) (drop l.used l.operands));
      count : length l.updates.items ≡ l.target-index;
      room : vec_capacity l.fn.updates ≤ vec_capacity l.updates;
    }
