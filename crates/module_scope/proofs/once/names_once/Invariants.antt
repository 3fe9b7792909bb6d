use Rattle.std.proofs.Common.{List, drop}
use Rattle.module_scope.specs.Declarations.{declarations_seen}
use Rattle.module_scope.specs.Kept.{kept}
use Rattle.module_scope.proofs.NamesOnce.{ArePushed}
use Rattle.name_checks.specs.declared.bounds.Bounds.{Bounds}
use Rattle.module_scope.specs.Groups.{AreGrouped}
use Rattle.module_scope.proofs.once.names_once.Given as goal

abbrev pub invariant-all : goal.invariant-all
invariant-all l = record {
  once : ArePushed (kept l.seen) (declarations_seen l.list.items) (declarations_seen l.all) (declarations_seen (drop l.declaration-index l.all));
  grouped : (groups : List Bounds) → AreGrouped groups l.all → AreGrouped groups l.list.items;
}
