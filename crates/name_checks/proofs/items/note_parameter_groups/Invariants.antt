use Rattle.std.proofs.Common.{◌≡◌, drop, map, flat_map}
use Rattle.v_names.specs.Names.{parameters_faults}
use Rattle.v_tree.specs.Views.{parameters_of}
use Rattle.name_checks.specs.Noted.{noted}
use Rattle.name_checks.proofs.items.note_parameter_groups.Given as goal

abbrev pub invariant-groups : goal.invariant-groups
invariant-groups l = noted l.first (flat_map (parameters_faults l.scope) (map parameters_of (drop l.group-index l.groups))) ≡ noted l.initial.first
    (flat_map (parameters_faults l.scope) (map parameters_of l.groups))
