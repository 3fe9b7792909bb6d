use Rattle.std.proofs.Common.{◌≡◌, ℕ, List, [], ◌∷◌, ◌++◌, Option, map, option_map, is_some, drop, refl, ap, sym, subst, ◌∙◌}
use Rattle.v_tree.specs.Trees.{Identifier, SourceModule, has_name}
use Rattle.v_tree.specs.Views.{connection_of, expression_in}
use Rattle.v_elab.specs.Connections as plain
use Rattle.v_elab.specs.Connections.{open_parameters, head_names, connected_name, given_fault, name_before, given_faults, port_faults, connections_faults, given_parameter, given_parameters}
use Rattle.name_checks.specs.Noted.{noted}
use Rattle.module_scope.specs.Kept.{kept}
use Rattle.module_scope.specs.Givens.{given_parameter as given_seen}
use Rattle.instance_checks.specs.Offered.{AreNames, AreFormals, name_seen}
use Rattle.instance_checks.specs.Children.{IsChild}
use Rattle.instance_checks.proofs.Turns.{GivenLeft, given-step, given-end}
use Rattle.instance_checks.proofs.given.note_given.Goals as goal

pub connections-init : goal.connections-init
connections-init c m formals = record { earlier = []; known_are = λ other. ap (λ kept_names. is_some (kept kept_names other)) c.new-earlier.ensures; left = refl }

pub connections-preserved : goal.connections-preserved
connections-preserved c m formals =
    let order : List Identifier = open_parameters m in
    let connected : option_map name_seen c.connected-name.result ≡ connected_name order c.connections.position c.index-connections-position.result.name =
    c.connected-name.ensures order (subst (AreNames order) (sym c.parameters.ensures) formals.parameters_are) in
    given-step connection_of c.args.connections.now c.connections.position c.index-connections-position.result c.args.scope.now order (λ (name : List ℕ). is_some (kept c.connections.earlier name))
    (λ (name : List ℕ). is_some (kept c.note_given_name.new.earlier name)) c.connections.first c.note_given_name.new.first c.note_optional_size.new.first _
    c.connections-test.true c.index-connections-position.is (c.connections.invariant m formals)
    (λ names are. c.in_ok-note_given_name.ensures.noted names are ∙ ap (λ (n : Option Identifier).
    noted c.connections.first (given_fault names (connection_of c.index-connections-position.result) n)) connected)
    (λ names are other. c.in_ok-note_given_name.ensures.earlier names are other ∙ ap (λ (n : Option Identifier). has_name (name_before n names) other) connected) c.in_ok-note_optional_size.ensures

pub returns : goal.returns
returns c m formals = given-end connection_of c.args.connections.now c.connections.position c.args.scope.now (open_parameters m)
    (λ (name : List ℕ). is_some (kept c.connections.earlier name)) c.connections.first _ c.connections-test.false (c.connections.invariant m formals)
