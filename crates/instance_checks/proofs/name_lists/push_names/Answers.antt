use Rattle.std.proofs.Common.{ℕ, List, [], ◌∷◌, map, flat_map, drop, refl}
use Rattle.v_tree.specs.Trees.{NamedPlace, SourcePorts}
use Rattle.v_tree.specs.Views.{name_of, ports_of}
use Rattle.module_scope.specs.Declarations.{declaration_seen, declarations_seen}
use Rattle.instance_checks.specs.declared.name_lists.Names.{Names}
use Rattle.instance_checks.specs.Offered.{open_name, open_names, NamesGrow}
use Rattle.v_tree.specs.declared.item.Name.{Name}
use Rattle.instance_checks.proofs.NameLaws.{names-step, names-end}
use Rattle.instance_checks.proofs.name_lists.push_names.Goals as goal

pub heads-preserved : goal.heads-preserved
heads-preserved c final rest =
    c.heads.invariant final
    (names-step (λ (x : Name). (name_of x).name ∷ []) (λ (xs : List Name). map (λ (n : NamedPlace). n.name) (map name_of xs)) c.args.heads.now c.heads.head-index c.head-item.result c.heads.names
    c.push.new.self final (λ y ys. refl)
    c.heads-test.true c.head-item.is c.in_ok-push.ensures rest)

pub returns : goal.returns
returns c = c.heads.invariant c.heads.names (names-end (λ (xs : List Name). map (λ (n : NamedPlace). n.name) (map name_of xs)) c.args.heads.now c.heads.head-index c.heads.names refl
    c.heads-test.false)
