use Rattle.std.proofs.Common.{List, map, flat_map, refl}
use Rattle.v_tree.specs.Views.{wire_of}
use Rattle.v_tree.specs.declared.item.Wire.{Wire}
use Rattle.v_elab.specs.Walk.{wire_parts}
use Rattle.name_checks.specs.Rows.{list-more}
use Rattle.elab_parts.specs.PartViews.{parts_of}
use Rattle.elab_items.proofs.Rows.{list-done}
use Rattle.elab_items.proofs.nodes.push_wire_values.Goals as goal

pub wires-preserved : goal.wires-preserved
wires-preserved c h i =
    list-more (λ (x : Wire). wire_parts h (wire_of x)) (λ (xs : List Wire). flat_map (wire_parts h) (map wire_of xs))
    c.args.wires.now c.wires.wire-index c.wire-item.result (parts_of c.wires.parts.items) (parts_of c.push_wire.new.parts.items) _ (λ y ys. refl) c.wires-test.true c.wire-item.is
    (c.in_ok-push_wire.ensures h i) (c.wires.invariant h i)

pub returns : goal.returns
returns c h i = list-done (λ (xs : List Wire). flat_map (wire_parts h) (map wire_of xs)) c.args.wires.now c.wires.wire-index (parts_of c.wires.parts.items) _ refl c.wires-test.false
    (c.wires.invariant h i)
