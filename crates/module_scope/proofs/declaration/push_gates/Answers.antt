use Rattle.std.proofs.Common.{List, [], ◌∷◌, map, refl}
use Rattle.module_scope.specs.Declarations.{declarations_seen}
use Rattle.v_names.specs.Names.{gate_declarations}
use Rattle.v_tree.specs.Views.{gate_of}
use Rattle.v_tree.specs.declared.item.Gate.{Gate}
use Rattle.name_checks.specs.Rows.{list-more}
use Rattle.module_scope.proofs.Gates.{gate-first}
use Rattle.module_scope.specs.Groups.{InAnyCase}
use Rattle.module_scope.proofs.Grouping.{adds-none, adds-both}
use Rattle.module_scope.proofs.declaration.push_gates.Goals as goal

pub gates-preserved : goal.gates-preserved
gates-preserved c = record {
  list =
      list-more (λ (x : Gate). gate_declarations (gate_of x ∷ [])) (λ (xs : List Gate). gate_declarations (map gate_of xs)) c.args.gates.now c.gates.gate-index c.gate-item.result
      (declarations_seen c.gates.list.items) (declarations_seen c.push_gate.new.list.items) _ gate-first c.gates-test.true c.gate-item.is c.in_ok-push_gate.ensures.list c.gates.invariant.list;
  grouped = adds-both InAnyCase _ _ _ c.gates.invariant.grouped c.in_ok-push_gate.ensures.grouped;
}

pub gates-init : goal.gates-init
gates-init c = record { list = refl; grouped = adds-none InAnyCase _ }
