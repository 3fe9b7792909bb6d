use Rattle.std.proofs.Common.{◌++◌, List, map, flat_map, refl, ap, sym, ◌∙◌}
use Rattle.v_names.specs.Constants.{ParameterValue, constant_faults, optional_faults}
use Rattle.v_tree.specs.Trees.{SourceConnection}
use Rattle.v_tree.specs.Views.{expression_in, connection_of}
use Rattle.v_tree.specs.declared.item.Connection.{Connection}
use Rattle.name_checks.specs.Rows.{rest-more}
use Rattle.name_checks.proofs.items.note_set_parameters.Goals as goal

pub connections-preserved : goal.connections-preserved
connections-preserved c =
    rest-more (λ (x : Connection). optional_faults (constant_faults c.args.scope.now ParameterValue) (expression_in x.actual))
    (λ (xs : List Connection). flat_map (λ (k : SourceConnection). optional_faults (constant_faults c.args.scope.now ParameterValue) k.actual) (map connection_of xs)) c.args.connections.now
    c.connections.connection-index c.connection-item.result
    c.connections.first c.note_optional_constant.new.first _ (λ y ys. refl) c.connections-test.true c.connection-item.is c.in_ok-note_optional_constant.ensures c.connections.invariant
