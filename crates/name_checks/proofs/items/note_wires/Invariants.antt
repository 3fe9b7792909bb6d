use Rattle.std.proofs.Common.{◌≡◌, drop, map, flat_map}
use Rattle.v_names.specs.Constants.{name_faults, optional_faults}
use Rattle.v_tree.specs.Trees.{SourceWire}
use Rattle.v_tree.specs.Views.{wire_of}
use Rattle.name_checks.specs.Noted.{noted}
use Rattle.name_checks.proofs.items.note_wires.Given as goal

abbrev pub invariant-wires : goal.invariant-wires
invariant-wires l = noted l.first (flat_map (λ (w : SourceWire). optional_faults (name_faults l.scope) w.value) (map wire_of (drop l.wire-index l.wires))) ≡ noted l.initial.first
    (flat_map (λ (w : SourceWire). optional_faults (name_faults l.scope) w.value) (map wire_of l.wires))
