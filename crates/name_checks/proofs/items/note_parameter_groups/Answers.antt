use Rattle.std.proofs.Common.{◌++◌, List, map, flat_map, refl, ap, sym, ◌∙◌}
use Rattle.v_names.specs.Names.{parameters_faults}
use Rattle.v_tree.specs.Views.{parameters_of}
use Rattle.v_tree.specs.declared.item.Params.{Params}
use Rattle.name_checks.specs.Rows.{rest-more}
use Rattle.name_checks.proofs.items.note_parameter_groups.Goals as goal

pub groups-preserved : goal.groups-preserved
groups-preserved c =
    rest-more (λ (x : Params). parameters_faults c.args.scope.now (parameters_of x)) (λ (xs : List Params). flat_map (parameters_faults c.args.scope.now) (map parameters_of xs)) c.args.groups.now
    c.groups.group-index c.group-item.result
    c.groups.first c.note_parameters.new.first _ (λ y ys. refl) c.groups-test.true c.group-item.is c.in_ok-note_parameters.ensures c.groups.invariant
