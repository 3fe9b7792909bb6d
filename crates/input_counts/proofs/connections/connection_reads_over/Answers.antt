use Rattle.std.proofs.Common.{◌≡◌, true, false, List, Option, map, option_map, refl, sym, ap, subst, ◌∙◌, rules}
use Rattle.v_tree.specs.Trees.{Identifier}
use Rattle.v_tree.specs.Views.{connection_of, expression_in}
use Rattle.v_tree.specs.declared.item.Connection.{Connection}
use Rattle.v_elab.specs.Connections.{head_names, connected_name}
use Rattle.v_elab.specs.ReadCounts.{some_reads_over, connection_reads, connections_reads}
use Rattle.instance_checks.specs.Offered.{AreNames, name_seen}
use Rattle.input_counts.proofs.OverLaws.{over-next, over-stop, over-done}
use Rattle.input_counts.proofs.connections.connection_reads_over.Goals as goal

pub returns-then-over : goal.returns-then-over
returns-then-over c child are =
    let holds : c.in_ok-over.over ≡ true = search rules in
    let order : List Identifier = head_names child.inner.heads in
    let connected : option_map name_seen c.connected-port.result ≡ connected_name order c.connections.position c.index-connections-position.result.name =
    c.connected-port.ensures order (subst (AreNames order) (sym c.ports.ensures) are.formals_are.ports_are) in
    over-stop child.outer_scope (λ (x : Connection). connection_reads child (connected_name order c.connections.position x.name) (expression_in x.actual))
    (λ i (xs : List Connection). connections_reads child i (map connection_of xs)) c.args.connections.now c.connections.position
    c.index-connections-position.result _ c.in_ok-over.over (λ y ys. refl) c.connections-test.true c.index-connections-position.is
    (c.in_ok-over.ensures child are ∙ ap (λ (n : Option Identifier). some_reads_over child.outer_scope (connection_reads child n (expression_in c.index-connections-position.result.actual)))
    connected) holds (c.connections.invariant child are)

pub connections-preserved : goal.connections-preserved
connections-preserved c child are =
    let fails : c.in_ok-over.over ≡ false = search rules in
    let order : List Identifier = head_names child.inner.heads in
    let connected : option_map name_seen c.connected-port.result ≡ connected_name order c.connections.position c.index-connections-position.result.name =
    c.connected-port.ensures order (subst (AreNames order) (sym c.ports.ensures) are.formals_are.ports_are) in
    over-next child.outer_scope (λ (x : Connection). connection_reads child (connected_name order c.connections.position x.name) (expression_in x.actual))
    (λ i (xs : List Connection). connections_reads child i (map connection_of xs)) c.args.connections.now c.connections.position
    c.index-connections-position.result _ c.in_ok-over.over (λ y ys. refl) c.connections-test.true c.index-connections-position.is
    (c.in_ok-over.ensures child are ∙ ap (λ (n : Option Identifier). some_reads_over child.outer_scope (connection_reads child n (expression_in c.index-connections-position.result.actual)))
    connected) fails (c.connections.invariant child are)

pub returns : goal.returns
returns c child are =
    over-done child.outer_scope (λ i (xs : List Connection). connections_reads child i (map connection_of xs)) c.args.connections.now c.connections.position _ refl c.connections-test.false
    (c.connections.invariant child are)
