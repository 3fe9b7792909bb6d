use Rattle.std.proofs.Common.{◌≡◌, ◌++◌, drop, map}
use Rattle.v_tree.specs.Views.{gate_of}
use Rattle.v_names.specs.Names.{gate_declarations}
use Rattle.module_scope.specs.Declarations.{declarations_seen}
use Rattle.module_scope.specs.Groups.{AddsGrouped, InAnyCase}
use Rattle.module_scope.proofs.declaration.push_gates.Given as goal

abbrev pub invariant-gates : goal.invariant-gates
invariant-gates l = record {
  list : declarations_seen l.list.items ++ gate_declarations (map gate_of (drop l.gate-index l.gates)) ≡ declarations_seen l.initial.list.items ++ gate_declarations (map gate_of l.gates);
  grouped : AddsGrouped InAnyCase l.initial.list.items l.list.items;
}
