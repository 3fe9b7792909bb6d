use Rattle.std.proofs.Common.{◌≡◌, ◌+◌, drop, map}
use Rattle.v_design.specs.Plain.{target_of}
use Rattle.v_design.specs.Assignments.{targets_width}
use Rattle.process_operands.proofs.target.width_of_targets.Given as goal

abbrev pub invariant-targets : goal.invariant-targets
invariant-targets l = l.width + targets_width (map target_of (drop l.target-index l.targets)) ≡ targets_width (map target_of l.targets)
