use Rattle.std.proofs.Common.{◌≡◌, drop, map, flat_map}
use Rattle.v_names.specs.Names.{actual_faults}
use Rattle.v_tree.specs.Trees.{SourceInstance}
use Rattle.v_tree.specs.Views.{instance_of}
use Rattle.name_checks.specs.Noted.{noted}
use Rattle.name_checks.proofs.items.note_instances.Given as goal

abbrev pub invariant-instances : goal.invariant-instances
invariant-instances l = noted l.first (flat_map (λ (i : SourceInstance). flat_map (actual_faults l.scope) i.connections) (map instance_of (drop l.instance-index l.instances))) ≡ noted
    l.initial.first (flat_map (λ (i : SourceInstance). flat_map (actual_faults l.scope) i.connections) (map instance_of l.instances))
