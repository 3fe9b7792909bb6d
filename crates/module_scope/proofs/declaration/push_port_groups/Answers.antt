use Rattle.std.proofs.Common.{List, map, flat_map, refl}
use Rattle.module_scope.specs.Declarations.{declarations_seen}
use Rattle.v_names.specs.Names.{port_declarations}
use Rattle.v_tree.specs.Views.{ports_of}
use Rattle.v_tree.specs.declared.item.Ports.{Ports}
use Rattle.name_checks.specs.Rows.{list-more}
use Rattle.module_scope.proofs.declaration.push_port_groups.Goals as goal

pub groups-preserved : goal.groups-preserved
groups-preserved c = record {
  list =
      list-more (λ (x : Ports). port_declarations (ports_of x)) (λ (xs : List Ports). flat_map port_declarations (map ports_of xs)) c.args.ports.now c.groups.group-index c.group-item.result
      (declarations_seen c.groups.list.items) (declarations_seen c.push_ports.new.list.items) _ (λ y ys. refl)
      c.groups-test.true c.group-item.is c.in_ok-push_ports.ensures.list c.groups.invariant.list;
  grouped = c.in_ok-push_ports.ensures.grouped;
}
