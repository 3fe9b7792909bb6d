use Rattle.std.proofs.Common.{◌≡◌, drop, map, flat_map}
use Rattle.v_names.specs.Constants.{ParameterValue, constant_faults, optional_faults}
use Rattle.v_tree.specs.Trees.{SourceConnection}
use Rattle.v_tree.specs.Views.{connection_of}
use Rattle.name_checks.specs.Noted.{noted}
use Rattle.name_checks.proofs.items.note_set_parameters.Given as goal

abbrev pub invariant-connections : goal.invariant-connections
invariant-connections l = noted l.first (flat_map (λ (c : SourceConnection). optional_faults (constant_faults l.scope ParameterValue) c.actual)
    (map connection_of (drop l.connection-index l.connections))) ≡ noted l.initial.first (flat_map (λ (c : SourceConnection). optional_faults (constant_faults l.scope ParameterValue) c.actual)
    (map connection_of l.connections))
