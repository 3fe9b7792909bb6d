use Rattle.std.proofs.Common.{◌≡◌, ◌+◌, ◌++◌, ◌∷◌, List, Option, map, option_map, drop, refl, sym, ap, subst, ◌∙◌}
use Rattle.std.proofs.lemmas.Bool.{or_parts}
use Rattle.v_tree.specs.Trees.{Identifier}
use Rattle.v_tree.specs.Views.{connection_of, expression_in}
use Rattle.v_tree.specs.declared.item.Connection.{Connection}
use Rattle.v_elab.specs.Connections.{head_names, connected_name, connection_parts, connections_parts}
use Rattle.elab_parts.specs.PartViews.{parts_of}
use Rattle.instance_checks.specs.Offered.{AreNames, name_seen}
use Rattle.name_checks.specs.Rows.{drop-step}
use Rattle.elab_connections.specs.WidePorts.{connects_wide_port, is_wide}
use Rattle.elab_connections.specs.OutputRuns.{ConnectionTakesRuns, ConnectionsTakeRuns}
use Rattle.elab_connections.proofs.ConnectionTurns.{turn-more, turn-end}
use Rattle.elab_connections.proofs.assigned.push_connection_parts.Goals as goal

pub connections-init : goal.connections-init
connections-init c child are narrow takes = (narrow, takes, λ p paths. refl)

pub connections-preserved : goal.connections-preserved
connections-preserved c child are narrow takes =
    let order : List Identifier = head_names child.inner.heads in
    let connected : option_map name_seen c.connected-port.result ≡ connected_name order c.connections.position c.index-connections-position.result.name =
    c.connected-port.ensures order (subst (AreNames order) (sym c.ports.ensures) are.formals_are.ports_are) in
    let before = c.connections.invariant child are narrow takes in
    let here = or_parts (is_wide child (connected_name order c.connections.position c.index-connections-position.result.name))
    (connects_wide_port child (c.connections.position + 1) (map connection_of (drop (c.connections.position + 1) c.args.connections.now)))
    (sym (ap (λ (xs : List Connection). connects_wide_port child c.connections.position (map connection_of xs))
    (drop-step c.args.connections.now c.connections.position c.index-connections-position.result c.connections-test.true c.index-connections-position.is)) ∙ before.0) in
    let runs : ConnectionsTakeRuns child c.connections.position (map connection_of (c.index-connections-position.result ∷ drop (c.connections.position + 1) c.args.connections.now)) =
    subst (λ (xs : List Connection). ConnectionsTakeRuns child c.connections.position (map connection_of xs))
    (drop-step c.args.connections.now c.connections.position c.index-connections-position.result c.connections-test.true c.index-connections-position.is) before.1 in (
      here.1,
      runs.1,
      λ p paths.
          turn-more (λ (x : Connection). connection_parts child p (connected_name order c.connections.position x.name) (expression_in x.actual))
          (λ i (xs : List Connection). connections_parts child p i (map connection_of xs)) c.args.connections.now c.connections.position c.index-connections-position.result
          (parts_of c.connections.parts.items) (parts_of c.push_connection.new.parts.items) _ (λ y ys. refl) c.connections-test.true c.index-connections-position.is
          (c.in_ok-push_connection.ensures child are (ap (is_wide child) connected ∙ here.0)
          (subst (λ (n : Option Identifier). ConnectionTakesRuns child n (expression_in c.index-connections-position.result.actual)) (sym connected) runs.0) p paths ∙ ap (λ (n : Option Identifier). parts_of c.connections.parts.items
          ++ connection_parts child p n (expression_in c.index-connections-position.result.actual)) connected)
          (before.2 p paths),
    )

pub returns : goal.returns
returns c child are narrow takes p paths =
    let before = c.connections.invariant child are narrow takes in
    turn-end (λ i (xs : List Connection). connections_parts child p i (map connection_of xs)) c.args.connections.now c.connections.position
    (parts_of c.connections.parts.items) _ refl c.connections-test.false (before.2 p paths)
