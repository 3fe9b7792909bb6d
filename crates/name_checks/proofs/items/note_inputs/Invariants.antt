use Rattle.std.proofs.Common.{◌≡◌, drop, map, flat_map}
use Rattle.v_names.specs.Constants.{name_faults}
use Rattle.v_tree.specs.Views.{expression_of}
use Rattle.name_checks.specs.Noted.{noted}
use Rattle.name_checks.proofs.items.note_inputs.Given as goal

abbrev pub invariant-inputs : goal.invariant-inputs
invariant-inputs l = noted l.first (flat_map (name_faults l.scope) (map expression_of (drop l.input-index l.inputs))) ≡ noted l.initial.first
    (flat_map (name_faults l.scope) (map expression_of l.inputs))
