use Rattle.std.proofs.Common.{◌≡◌, drop, map, flat_map}
use Rattle.v_elab.specs.ItemFaults.{wire_faults}
use Rattle.v_tree.specs.Views.{wire_of}
use Rattle.name_checks.specs.Noted.{noted}
use Rattle.item_checks.proofs.assigned.note_wires.Given as goal

abbrev pub invariant-wires : goal.invariant-wires
invariant-wires l = noted l.first (flat_map (wire_faults l.scope) (map wire_of (drop l.wire-index l.wires))) ≡ noted l.initial.first (flat_map (wire_faults l.scope) (map wire_of l.wires))
