use Rattle.std.proofs.Common.{List, [], ◌∷◌, map, refl}
use Rattle.module_scope.specs.Declarations.{declarations_seen, wire_declarations}
use Rattle.name_checks.specs.BoundViews.{bounds_seen}
use Rattle.v_tree.specs.Views.{wire_of}
use Rattle.v_tree.specs.declared.item.Wire.{Wire}
use Rattle.name_checks.specs.Rows.{list-more}
use Rattle.module_scope.specs.Groups.{BoundsIn}
use Rattle.module_scope.proofs.Grouping.{adds-none, adds-both, adds-where}
use Rattle.module_scope.proofs.declaration.push_wires.Goals as goal

pub wires-preserved : goal.wires-preserved
wires-preserved c = record {
  list =
      list-more (λ (x : Wire). wire_declarations c.args.signed (bounds_seen c.args.bounds.bounds) (wire_of x ∷ []))
      (λ (xs : List Wire). wire_declarations c.args.signed (bounds_seen c.args.bounds.bounds) (map wire_of xs)) c.args.wires.now c.wires.wire-index c.wire-item.result
      (declarations_seen c.wires.list.items) (declarations_seen c.push.new.list.items) _ (λ y ys. refl) c.wires-test.true c.wire-item.is c.in_ok-push.ensures.list c.wires.invariant.list;
  grouped = adds-both (BoundsIn c.args.bounds) _ _ _ c.wires.invariant.grouped (adds-where _ (BoundsIn c.args.bounds) _ _ (λ groups h. h) c.in_ok-push.ensures.grouped);
}

pub wires-init : goal.wires-init
wires-init c = record { list = refl; grouped = adds-none (BoundsIn c.args.bounds) _ }
