use Rattle.std.proofs.Common.{◌++◌, List, map, flat_map, refl, ap, sym, ◌∙◌}
use Rattle.v_names.specs.Names.{actual_faults}
use Rattle.v_tree.specs.Views.{connection_of}
use Rattle.v_tree.specs.declared.item.Connection.{Connection}
use Rattle.name_checks.specs.Rows.{rest-more}
use Rattle.name_checks.proofs.items.note_actuals.Goals as goal

pub connections-preserved : goal.connections-preserved
connections-preserved c =
    rest-more (λ (x : Connection). actual_faults c.args.scope.now (connection_of x)) (λ (xs : List Connection). flat_map (actual_faults c.args.scope.now) (map connection_of xs))
    c.args.connections.now c.connections.connection-index c.connection-item.result
    c.connections.first c.note_optional_names.new.first _ (λ y ys. refl) c.connections-test.true c.connection-item.is c.in_ok-note_optional_names.ensures c.connections.invariant
