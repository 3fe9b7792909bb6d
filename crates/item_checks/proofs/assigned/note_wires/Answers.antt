use Rattle.std.proofs.Common.{List, map, flat_map, refl}
use Rattle.v_elab.specs.ItemFaults.{wire_faults}
use Rattle.v_tree.specs.Views.{wire_of}
use Rattle.v_tree.specs.declared.item.Wire.{Wire}
use Rattle.name_checks.specs.Rows.{rest-more}
use Rattle.item_checks.proofs.assigned.note_wires.Goals as goal

pub wires-preserved : goal.wires-preserved
wires-preserved c =
    rest-more (λ (x : Wire). wire_faults c.args.scope.now (wire_of x)) (λ (xs : List Wire). flat_map (wire_faults c.args.scope.now) (map wire_of xs)) c.args.wires.now c.wires.wire-index
    c.wire-item.result
    c.wires.first c.note_wire.new.first _ (λ y ys. refl) c.wires-test.true c.wire-item.is c.in_ok-note_wire.ensures c.wires.invariant
