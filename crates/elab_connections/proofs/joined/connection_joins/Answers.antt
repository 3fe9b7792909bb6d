use Rattle.std.proofs.Common.{◌≡◌, ◌++◌, List, Option, map, option_map, refl, sym, ap, subst, ◌∙◌}
use Rattle.v_tree.specs.Trees.{Identifier}
use Rattle.v_tree.specs.Views.{connection_of, expression_in}
use Rattle.v_tree.specs.declared.item.Connection.{Connection}
use Rattle.v_elab.specs.Connections.{head_names, connected_name, connection_joins, connections_joins}
use Rattle.elab_items.specs.Joins.{port_joined_of}
use Rattle.instance_checks.specs.Offered.{AreNames, name_seen}
use Rattle.elab_connections.proofs.ConnectionTurns.{turn-more, turn-end}
use Rattle.elab_connections.proofs.joined.connection_joins.Goals as goal

pub connections-preserved : goal.connections-preserved
connections-preserved c child are p paths =
    let order : List Identifier = head_names child.inner.heads in
    let connected : option_map name_seen c.connected-port.result ≡ connected_name order c.connections.position c.index-connections-position.result.name =
    c.connected-port.ensures order (subst (AreNames order) (sym c.ports.ensures) are.formals_are.ports_are) in
    turn-more (λ (x : Connection). connection_joins child p (connected_name order c.connections.position x.name) (expression_in x.actual))
    (λ i (xs : List Connection). connections_joins child p i (map connection_of xs)) c.args.connections.now c.connections.position c.index-connections-position.result
    (map port_joined_of c.connections.joins.items) (map port_joined_of c.push_connected.new.joins.items) _ (λ y ys. refl) c.connections-test.true c.index-connections-position.is
    (c.in_ok-push_connected.ensures child are p paths ∙ ap (λ (n : Option Identifier). map port_joined_of c.connections.joins.items
    ++ connection_joins child p n (expression_in c.index-connections-position.result.actual)) connected)
    (c.connections.invariant child are p paths)

pub returns : goal.returns
returns c child are p paths =
    turn-end (λ i (xs : List Connection). connections_joins child p i (map connection_of xs)) c.args.connections.now c.connections.position
    (map port_joined_of c.connections.joins.items) _ refl c.connections-test.false (c.connections.invariant child are p paths)
