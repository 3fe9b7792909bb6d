use Rattle.std.proofs.Common.{◌≡◌, drop, map, flat_map}
use Rattle.v_names.specs.Constants.{most_bound, bound_faults, optional_faults}
use Rattle.v_tree.specs.Trees.{SourcePorts}
use Rattle.v_tree.specs.Views.{ports_of}
use Rattle.name_checks.specs.Noted.{noted}
use Rattle.name_checks.proofs.items.note_port_groups.Given as goal

abbrev pub invariant-groups : goal.invariant-groups
invariant-groups l = noted l.first (flat_map (λ (g : SourcePorts). optional_faults (bound_faults l.scope most_bound) g.range) (map ports_of (drop l.group-index l.groups))) ≡ noted l.initial.first
    (flat_map (λ (g : SourcePorts). optional_faults (bound_faults l.scope most_bound) g.range) (map ports_of l.groups))
