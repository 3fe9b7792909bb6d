use Rattle.std.proofs.Common.{◌≡◌, ◌++◌, map, drop}
use Rattle.vf_base.specs.Base.{object_number}
use Rattle.v_design.specs.Plain.{target_of}
use Rattle.v_design.specs.Reads.{indexes_objects}
use Rattle.object_reads.proofs.statement.push_indexes_reads.Given as goal

abbrev pub invariant-targets : goal.invariant-targets
invariant-targets l =
    map object_number l.objects.items ++ indexes_objects (map target_of (drop l.target-index l.targets)) ≡ map object_number l.initial.objects.items ++ indexes_objects (map target_of l.targets)
