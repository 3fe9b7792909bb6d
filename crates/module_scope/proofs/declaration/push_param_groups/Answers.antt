use Rattle.std.proofs.Common.{List, map, flat_map, refl}
use Rattle.module_scope.specs.Declarations.{declarations_seen}
use Rattle.v_names.specs.Names.{parameter_declarations}
use Rattle.v_tree.specs.Views.{parameters_of}
use Rattle.v_tree.specs.declared.item.Params.{Params}
use Rattle.name_checks.specs.Rows.{list-more}
use Rattle.module_scope.proofs.declaration.push_param_groups.Goals as goal

pub groups-preserved : goal.groups-preserved
groups-preserved c = record {
  list =
      list-more (λ (x : Params). parameter_declarations (parameters_of x)) (λ (xs : List Params). flat_map parameter_declarations (map parameters_of xs)) c.args.params.now c.groups.group-index
      c.group-item.result
      (declarations_seen c.groups.list.items) (declarations_seen c.push_params.new.list.items) _ (λ y ys. refl)
      c.groups-test.true c.group-item.is c.in_ok-push_params.ensures.list c.groups.invariant.list;
  grouped = c.in_ok-push_params.ensures.grouped;
}
