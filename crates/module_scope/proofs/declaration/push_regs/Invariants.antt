use Rattle.std.proofs.Common.{◌≡◌, ◌++◌, drop, map}
use Rattle.module_scope.specs.Declarations.{declarations_seen}
use Rattle.name_checks.specs.BoundViews.{bounds_seen}
use Rattle.v_names.specs.Names.{reg_declarations}
use Rattle.v_tree.specs.Views.{reg_of}
use Rattle.module_scope.specs.Groups.{AddsGrouped, BoundsIn}
use Rattle.module_scope.proofs.declaration.push_regs.Given as goal

abbrev pub invariant-regs : goal.invariant-regs
invariant-regs l = record {
  list : declarations_seen l.list.items ++ reg_declarations l.signed (bounds_seen l.bounds.bounds) (map reg_of (drop l.reg-index l.regs)) ≡ declarations_seen l.initial.list.items
      ++ reg_declarations l.signed (bounds_seen l.bounds.bounds) (map reg_of l.regs);
  grouped : AddsGrouped (BoundsIn l.bounds) l.initial.list.items l.list.items;
}
