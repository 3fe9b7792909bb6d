use Rattle.std.proofs.Common.{◌≡◌, ◌+◌, ◌*◌, map, take}
use Rattle.v_design.specs.Plain.{expression_of}
use Rattle.v_names.specs.SizedTrees.{Holders}
use Rattle.v_width.specs.SizedViews.{sized_of, all_sized_of}
use Rattle.object_names.specs.Instances.{HoldNames}
use Rattle.object_expr.proofs.Rows.{seen_over}
use Rattle.object_expr.proofs.Levels.{levels_of, levels_of_all}
use Rattle.object_expr.proofs.expression.+over_objects.Given as goal

abbrev pub invariant-all_over_objects-exprs : goal.invariant-all_over_objects-exprs
invariant-all_over_objects-exprs l = (holders : Holders) → HoldNames holders l.names → map expression_of l.flats.items ≡ map (seen_over holders) (take l.expr-index l.exprs)

-- what stands within has a level less
abbrev pub decreases-over_objects : goal.decreases-over_objects
decreases-over_objects l = 3 * levels_of (sized_of l.expr.now)

abbrev pub decreases-boxed : goal.decreases-boxed
decreases-boxed l = 3 * levels_of (sized_of l.expr.now) + 1

abbrev pub decreases-all_over_objects : goal.decreases-all_over_objects
decreases-all_over_objects l = 3 * levels_of_all (all_sized_of l.exprs.now) + 2
