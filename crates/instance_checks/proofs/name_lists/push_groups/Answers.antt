use Rattle.std.proofs.Common.{ℕ, List, [], ◌∷◌, map, flat_map, drop, refl, ap, subst}
use Rattle.v_tree.specs.Trees.{Identifier, NamedPlace, SourcePorts}
use Rattle.v_tree.specs.Views.{name_of, ports_of}
use Rattle.module_scope.specs.Declarations.{declaration_seen, declarations_seen}
use Rattle.instance_checks.specs.declared.name_lists.Names.{Names}
use Rattle.instance_checks.specs.Offered.{open_name, open_names, NamesGrow}
use Rattle.v_tree.specs.declared.item.Ports.{Ports}
use Rattle.v_tree.specs.declared.item.Name.{Name}
use Rattle.instance_checks.proofs.NameLaws.{names-step, names-end}
use Rattle.instance_checks.proofs.name_lists.push_groups.Goals as goal

pub groups-preserved : goal.groups-preserved
groups-preserved c final rest =
    c.groups.invariant final
    (names-step (λ (x : Ports). map (λ (n : NamedPlace). n.name) (ports_of x).names) (λ (xs : List Ports). flat_map (λ (g : SourcePorts). map (λ (n : NamedPlace). n.name) g.names) (map ports_of xs))
    c.args.groups.now c.groups.group-index c.group-item.result c.groups.names c.push_names.new.names final (λ y ys. refl)
    c.groups-test.true c.group-item.is (subst (λ (list : List Identifier). NamesGrow list c.groups.names c.push_names.new.names)
    (ap (λ (ns : List Name). map (λ (n : NamedPlace). n.name) (map name_of ns)) c.as_slice.ensures) c.in_ok-push_names.ensures) rest)

pub returns : goal.returns
returns c = c.groups.invariant c.groups.names (names-end (λ (xs : List Ports). flat_map (λ (g : SourcePorts). map (λ (n : NamedPlace). n.name) g.names) (map ports_of xs)) c.args.groups.now
    c.groups.group-index c.groups.names refl c.groups-test.false)
