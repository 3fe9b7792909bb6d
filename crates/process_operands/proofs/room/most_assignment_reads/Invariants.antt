use Rattle.std.proofs.Common.{◌≡◌, ◌+◌, drop, map}
use Rattle.v_design.specs.Plain.{target_of}
use Rattle.process_operands.specs.Bounds.{reads_most_targets}
use Rattle.process_operands.proofs.room.most_assignment_reads.Given as goal

abbrev pub invariant-targets : goal.invariant-targets
invariant-targets l = l.indexes + reads_most_targets (map target_of (drop l.target-index l.targets)) ≡ reads_most_targets (map target_of l.targets)
