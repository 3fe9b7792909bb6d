use Rattle.std.proofs.Common.{◌≡◌, arith, List, Option, map, option_map, refl, sym, subst}
use Rattle.v_tree.specs.Trees.{Identifier}
use Rattle.v_tree.specs.Views.{connection_of, expression_in}
use Rattle.v_tree.specs.declared.item.Connection.{Connection}
use Rattle.v_elab.specs.Connections.{head_names, connected_name, connection_parts, connections_parts}
use Rattle.instance_checks.specs.Offered.{AreNames, name_seen}
use Rattle.elab_connections.specs.NodeCounts.{CountsNodes}
use Rattle.elab_connections.proofs.CountLaws.{counts-turn, counts-end}
use Rattle.elab_connections.proofs.counted.connection_nodes.Goals as goal

pub connections-preserved : goal.connections-preserved
connections-preserved c = record {
  most = omega (arith, c.connections.invariant.most, c.in_ok-nodes.ensures.most);
  counts = λ child are p.
      let order : List Identifier = head_names child.inner.heads in
      let connected : option_map name_seen c.connected-port.result ≡ connected_name order c.connections.position c.index-connections-position.result.name =
      c.connected-port.ensures order (subst (AreNames order) (sym c.ports.ensures) are.formals_are.ports_are) in
      counts-turn (λ (x : Connection). connection_parts child p (connected_name order c.connections.position x.name) (expression_in x.actual))
      (λ i (xs : List Connection). connections_parts child p i (map connection_of xs)) c.args.connections.now c.connections.position c.index-connections-position.result
      _ c.connections.nodes c.in_ok-nodes.field-0 (λ y ys. refl) c.connections-test.true c.index-connections-position.is
      (subst (λ (n : Option Identifier). CountsNodes (connection_parts child p n (expression_in c.index-connections-position.result.actual)) c.in_ok-nodes.field-0) connected
      (c.in_ok-nodes.ensures.counts child are p))
      (c.connections.invariant.counts child are p);
}

pub returns : goal.returns
returns c child are p =
    counts-end (λ i (xs : List Connection). connections_parts child p i (map connection_of xs)) c.args.connections.now c.connections.position _ c.connections.nodes refl c.connections-test.false
    (c.connections.invariant.counts child are p)
