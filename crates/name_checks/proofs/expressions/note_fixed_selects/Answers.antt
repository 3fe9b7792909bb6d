use Rattle.std.proofs.Common.{◌++◌, List, map, flat_map, refl, ap, sym, ◌∙◌}
use Rattle.v_names.specs.Constants.{fixed_select_faults}
use Rattle.v_tree.specs.Views.{select_of}
use Rattle.v_tree.specs.declared.expression.Select.{Select}
use Rattle.name_checks.specs.Rows.{rest-more}
use Rattle.name_checks.proofs.expressions.note_fixed_selects.Goals as goal

pub selects-preserved : goal.selects-preserved
selects-preserved c =
    rest-more (λ (x : Select). fixed_select_faults c.args.scope.now (select_of x)) (λ (xs : List Select). flat_map (fixed_select_faults c.args.scope.now) (map select_of xs)) c.args.selects.now
    c.selects.select-index c.select-item.result
    c.selects.first c.note_fixed_select.new.first _ (λ y ys. refl) c.selects-test.true c.select-item.is c.in_ok-note_fixed_select.ensures c.selects.invariant
