use Rattle.std.proofs.Common.{ℕ, List, [], ◌∷◌, map, flat_map, drop, refl}
use Rattle.v_tree.specs.Trees.{NamedPlace, SourcePorts}
use Rattle.v_tree.specs.Views.{name_of, ports_of}
use Rattle.module_scope.specs.Declarations.{declaration_seen, declarations_seen}
use Rattle.instance_checks.specs.declared.name_lists.Names.{Names}
use Rattle.instance_checks.specs.Offered.{open_name, open_names, NamesGrow}
use Rattle.module_scope.specs.declared.declaration.Declaration.{Declaration}
use Rattle.instance_checks.proofs.NameLaws.{names-step, names-end, open-first}
use Rattle.instance_checks.proofs.name_lists.open_parameters.Goals as goal

pub declared-preserved : goal.declared-preserved
declared-preserved c final rest =
    c.declared.invariant final
    (names-step (λ (x : Declaration). open_name (declaration_seen x)) (λ (xs : List Declaration). open_names (declarations_seen xs)) c.args.declared.now c.declared.declaration-index
    c.declaration-item.result c.declared.names c.push_open.new.names final (λ y ys. open-first (declaration_seen y) (declarations_seen ys))
    c.declared-test.true c.declaration-item.is c.in_ok-push_open.ensures rest)

pub returns : goal.returns
returns c = (c.declared.invariant c.declared.names (names-end (λ (xs : List Declaration). open_names (declarations_seen xs)) c.args.declared.now c.declared.declaration-index c.declared.names refl
    c.declared-test.false)).grows [] c.new-names.ensures
