use Rattle.std.proofs.Common.{ℕ, List, [], ◌∷◌, map, flat_map, drop, refl}
use Rattle.v_tree.specs.Trees.{NamedPlace, SourcePorts}
use Rattle.v_tree.specs.Views.{name_of, ports_of}
use Rattle.module_scope.specs.Declarations.{declaration_seen, declarations_seen}
use Rattle.instance_checks.specs.declared.name_lists.Names.{Names}
use Rattle.instance_checks.specs.Offered.{open_name, open_names, NamesGrow}
use Rattle.instance_checks.proofs.name_lists.push_names.Given as goal

abbrev pub invariant-heads : goal.invariant-heads
invariant-heads l = (final : Names) → NamesGrow (map (λ (n : NamedPlace). n.name) (map name_of (drop l.head-index l.heads))) l.names final →
    NamesGrow (map (λ (n : NamedPlace). n.name) (map name_of l.heads)) l.initial.names final
