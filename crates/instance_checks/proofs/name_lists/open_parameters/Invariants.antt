use Rattle.std.proofs.Common.{ℕ, List, [], ◌∷◌, map, flat_map, drop, refl}
use Rattle.v_tree.specs.Trees.{NamedPlace, SourcePorts}
use Rattle.v_tree.specs.Views.{name_of, ports_of}
use Rattle.module_scope.specs.Declarations.{declaration_seen, declarations_seen}
use Rattle.instance_checks.specs.declared.name_lists.Names.{Names}
use Rattle.instance_checks.specs.Offered.{open_name, open_names, NamesGrow}
use Rattle.instance_checks.proofs.name_lists.open_parameters.Given as goal

abbrev pub invariant-declared : goal.invariant-declared
invariant-declared l = (final : Names) → NamesGrow (open_names (declarations_seen (drop l.declaration-index l.declared))) l.names final →
    NamesGrow (open_names (declarations_seen l.declared)) l.initial.names final
