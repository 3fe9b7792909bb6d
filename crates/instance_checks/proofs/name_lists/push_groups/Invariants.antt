use Rattle.std.proofs.Common.{ℕ, List, [], ◌∷◌, map, flat_map, drop, refl}
use Rattle.v_tree.specs.Trees.{NamedPlace, SourcePorts}
use Rattle.v_tree.specs.Views.{name_of, ports_of}
use Rattle.module_scope.specs.Declarations.{declaration_seen, declarations_seen}
use Rattle.instance_checks.specs.declared.name_lists.Names.{Names}
use Rattle.instance_checks.specs.Offered.{open_name, open_names, NamesGrow}
use Rattle.instance_checks.proofs.name_lists.push_groups.Given as goal

abbrev pub invariant-groups : goal.invariant-groups
invariant-groups l = (final : Names) → NamesGrow (flat_map (λ (g : SourcePorts). map (λ (n : NamedPlace). n.name) g.names) (map ports_of (drop l.group-index l.groups))) l.names final →
    NamesGrow (flat_map (λ (g : SourcePorts). map (λ (n : NamedPlace). n.name) g.names) (map ports_of l.groups)) l.initial.names final
