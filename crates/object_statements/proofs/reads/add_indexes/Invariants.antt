use Rattle.std.proofs.Common.{◌≡◌, ◌++◌, drop, map, flat_map}
use Rattle.vf_base.specs.Base.{object_number}
use Rattle.v_design.specs.Plain.{target_of}
use Rattle.v_elab.specs.Statements.{index_objects_in_text}
use Rattle.object_statements.proofs.reads.add_indexes.Given as goal

abbrev pub invariant-targets : goal.invariant-targets
invariant-targets l =
    map object_number l.objects.items ++ flat_map index_objects_in_text (map target_of (drop l.target-index l.targets))
    ≡ map object_number l.initial.objects.items ++ flat_map index_objects_in_text (map target_of l.targets)
