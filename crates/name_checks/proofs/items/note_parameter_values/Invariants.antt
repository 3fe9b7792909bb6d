use Rattle.std.proofs.Common.{◌≡◌, drop, map, flat_map}
use Rattle.v_tree.specs.Views.{parameter_of}
use Rattle.v_names.specs.Names.{parameter_faults_within}
use Rattle.name_checks.specs.Noted.{noted}
use Rattle.name_checks.proofs.items.note_parameter_values.Given as goal

abbrev pub invariant-params : goal.invariant-params
invariant-params l = noted l.first (flat_map (parameter_faults_within l.width l.scope) (map parameter_of (drop l.param-index l.params))) ≡ noted l.initial.first
    (flat_map (parameter_faults_within l.width l.scope) (map parameter_of l.params))
