use Rattle.std.proofs.Common.{◌≡◌, ℕ, List, [], ◌∷◌, ◌++◌, Option, map, option_map, is_some, drop, refl, ap, sym, subst, ◌∙◌}
use Rattle.v_tree.specs.Trees.{Identifier, SourceModule, has_name}
use Rattle.v_tree.specs.Views.{connection_of, expression_in}
use Rattle.v_elab.specs.Connections as plain
use Rattle.v_elab.specs.Connections.{open_parameters, head_names, connected_name, given_fault, name_before, given_faults, port_faults, connections_faults, given_parameter, given_parameters}
use Rattle.name_checks.specs.Noted.{noted}
use Rattle.module_scope.specs.Kept.{kept}
use Rattle.module_scope.specs.Givens.{given_parameter as given_seen}
use Rattle.instance_checks.specs.Offered.{AreNames, AreFormals, name_seen}
use Rattle.instance_checks.specs.Children.{IsChild}
use Rattle.instance_checks.proofs.Turns.{GivenLeft}
use Rattle.instance_checks.proofs.given.note_given.Given as goal

abbrev pub invariant-connections : goal.invariant-connections
invariant-connections l =
    (m : SourceModule) → AreFormals m l.formals
    → GivenLeft l.scope (open_parameters m) l.position (λ (name : List ℕ). is_some (kept l.earlier name)) l.first
    (noted l.initial.first (given_faults l.scope (open_parameters m) 0 [] (map connection_of l.connections))) (map connection_of (drop l.position l.connections))
