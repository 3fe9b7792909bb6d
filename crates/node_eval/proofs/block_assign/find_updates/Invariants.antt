use Rattle.std.proofs.Common.{◌≡◌, ◌≤◌, ◌++◌, drop, map, length}
use Rattle.std.specs.Prelude.{option_map, vec_capacity}
use Rattle.v_design.specs.Plain.{target_of, update_of}
use Rattle.v_design.specs.Assignments.{targets_width, target_updates, index_value}
use Rattle.node_eval.proofs.block_assign.find_updates.Given as goal

abbrev pub invariant-targets : goal.invariant-targets
invariant-targets g l =
    record {
      left : l.left ≡ targets_width (map target_of (drop l.target-index l.targets));
      found : map (option_map update_of) l.updates.items ++ target_updates l.line (map target_of (drop l.target-index l.targets))
          (map (index_value (g.V.Values.values l.values)) (map target_of (drop l.target-index l.targets))) l.bits
          ≡ target_updates l.line (map target_of l.targets) (map (index_value (g.V.Values.values l.values)) (map target_of l.targets)) l.bits;
      count : length l.updates.items ≡ l.target-index;
      space : vec_capacity l.fn.updates ≤ vec_capacity l.updates;
      levels : l.stack.depth ≡ l.fn.stack.depth;
    }
