use Rattle.std.proofs.Common.{◌≡◌, ℕ, List, [], ◌∷◌, ◌++◌, Option, map, option_map, is_some, drop, refl, ap, sym, subst, ◌∙◌}
use Rattle.v_tree.specs.Trees.{Identifier, SourceModule, has_name}
use Rattle.v_tree.specs.Views.{connection_of, expression_in}
use Rattle.v_elab.specs.Connections as plain
use Rattle.v_elab.specs.Connections.{open_parameters, head_names, connected_name, given_fault, name_before, given_faults, port_faults, connections_faults, given_parameter, given_parameters}
use Rattle.name_checks.specs.Noted.{noted}
use Rattle.module_scope.specs.Kept.{kept}
use Rattle.module_scope.specs.Givens.{given_parameter as given_seen}
use Rattle.instance_checks.specs.Offered.{AreNames, AreFormals, name_seen}
use Rattle.instance_checks.specs.Children.{IsChild}
use Rattle.instance_checks.proofs.Turns.{set-step, set-end}
use Rattle.instance_checks.proofs.given.given_parameters.Goals as goal

pub connections-preserved : goal.connections-preserved
connections-preserved c m formals =
    let order : List Identifier = open_parameters m in
    let connected : option_map name_seen c.connected-name.result ≡ connected_name order c.connections.position c.index-connections-position.result.name =
    c.connected-name.ensures order (subst (AreNames order) (sym c.parameters.ensures) formals.parameters_are) in
    set-step connection_of c.args.connections.now c.connections.position c.index-connections-position.result c.args.scope.now order (map given_seen c.connections.given.items)
    (map given_seen c.push_given.new.given.items) _
    c.connections-test.true c.index-connections-position.is
    (c.in_ok-push_given.ensures ∙ ap (λ (n : Option Identifier). map given_seen c.connections.given.items
    ++ given_parameter c.args.scope.now n (expression_in c.index-connections-position.result.actual)) connected) (c.connections.invariant m formals)

pub returns : goal.returns
returns c m formals = set-end connection_of c.args.connections.now c.connections.position c.args.scope.now (open_parameters m) (map given_seen c.connections.given.items) _ c.connections-test.false
    (c.connections.invariant m formals)
