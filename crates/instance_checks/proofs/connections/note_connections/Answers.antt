use Rattle.std.proofs.Common.{◌≡◌, ℕ, List, [], ◌∷◌, ◌++◌, Option, map, option_map, is_some, drop, refl, ap, sym, subst, ◌∙◌}
use Rattle.v_tree.specs.Trees.{Identifier, SourceModule, has_name}
use Rattle.v_tree.specs.Views.{connection_of, expression_in}
use Rattle.v_elab.specs.Connections as plain
use Rattle.v_elab.specs.Connections.{open_parameters, head_names, connected_name, given_fault, name_before, given_faults, port_faults, connections_faults, given_parameter, given_parameters}
use Rattle.name_checks.specs.Noted.{noted}
use Rattle.module_scope.specs.Kept.{kept}
use Rattle.module_scope.specs.Givens.{given_parameter as given_seen}
use Rattle.instance_checks.specs.Offered.{AreNames, AreFormals, name_seen}
use Rattle.instance_checks.specs.Children.{IsChild}
use Rattle.instance_checks.proofs.Turns.{PortsLeft, port-step, port-end}
use Rattle.instance_checks.proofs.connections.note_connections.Goals as goal

pub connections-init : goal.connections-init
connections-init c child are = record { earlier = []; known_are = λ other. ap (λ kept_names. is_some (kept kept_names other)) c.new-earlier.ensures; left = refl }

pub connections-preserved : goal.connections-preserved
connections-preserved c child are =
    let order : List Identifier = head_names child.inner.heads in
    let connected : option_map name_seen c.connected-port.result ≡ connected_name order c.connections.position c.index-connections-position.result.name =
    c.connected-port.ensures order (subst (AreNames order) (sym c.ports.ensures) are.formals_are.ports_are) in
    port-step connection_of c.args.connections.now c.connections.position c.index-connections-position.result child (λ (name : List ℕ). is_some (kept c.connections.earlier name))
    (λ (name : List ℕ). is_some (kept c.note_connection.new.earlier name)) c.connections.first c.note_connection.new.first _
    c.connections-test.true c.index-connections-position.is (c.connections.invariant child are)
    (λ names known. c.in_ok-note_connection.ensures.noted child names are known ∙ ap (λ (n : Option Identifier).
    noted c.connections.first (port_faults child names (connection_of c.index-connections-position.result) n)) connected)
    (λ names known other. c.in_ok-note_connection.ensures.earlier names known other ∙ ap (λ (n : Option Identifier). has_name (name_before n names) other) connected)

pub returns : goal.returns
returns c child are = port-end connection_of c.args.connections.now c.connections.position child
    (λ (name : List ℕ). is_some (kept c.connections.earlier name)) c.connections.first _ c.connections-test.false (c.connections.invariant child are)
