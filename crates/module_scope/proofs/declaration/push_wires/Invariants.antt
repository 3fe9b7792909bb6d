use Rattle.std.proofs.Common.{◌≡◌, ◌++◌, drop, map}
use Rattle.module_scope.specs.Declarations.{declarations_seen, wire_declarations}
use Rattle.name_checks.specs.BoundViews.{bounds_seen}
use Rattle.v_tree.specs.Views.{wire_of}
use Rattle.module_scope.specs.Groups.{AddsGrouped, BoundsIn}
use Rattle.module_scope.proofs.declaration.push_wires.Given as goal

abbrev pub invariant-wires : goal.invariant-wires
invariant-wires l = record {
  list : declarations_seen l.list.items ++ wire_declarations l.signed (bounds_seen l.bounds.bounds) (map wire_of (drop l.wire-index l.wires)) ≡ declarations_seen l.initial.list.items
      ++ wire_declarations l.signed (bounds_seen l.bounds.bounds) (map wire_of l.wires);
  grouped : AddsGrouped (BoundsIn l.bounds) l.initial.list.items l.list.items;
}
