use Rattle.std.proofs.Common.{◌++◌, List, Option, [], map, flat_map, refl, ap, ◌∙◌}
use Rattle.v_tree.specs.Views.{connection_of, instance_of}
use Rattle.v_names.specs.Faults.{Fault}
use Rattle.v_names.specs.Scopes.{Scope}
use Rattle.v_elab.specs.Connections.{open_parameters, given_faults, instance_faults}
use Rattle.name_checks.specs.Noted.{noted, noted_none, noted-two}
use Rattle.instance_checks.proofs.instances.instance_fault.Goals as goal

pub returns : goal.returns
returns c child are =
    let given : List Fault = given_faults child.outer_scope (open_parameters child.inner) 0 [] (map connection_of c.args.parameters.now) in
    let connected : List Fault = flat_map (instance_faults child c.args.depth) (map instance_of c.args.instances.now) in
    c.found.ensures
    ∙ noted-two c.new-first.result c.note_given.new.first c.note_instances.new.first given connected (given ++ connected)
    (c.in_ok-note_given.ensures child.inner are.formals_are ∙ ap (λ (scope : Scope). noted c.new-first.result
    (given_faults scope (open_parameters child.inner) 0 [] (map connection_of c.args.parameters.now))) are.outer_is)
    (c.in_ok-note_instances.ensures child are) refl
    ∙ ap (λ (o : Option Fault). noted o (given ++ connected)) c.new-first.ensures ∙ noted_none (given ++ connected)
