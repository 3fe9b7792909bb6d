use Rattle.std.proofs.Common.{◌++◌, List, map, flat_map, refl, ap, sym, ◌∙◌}
use Rattle.v_names.specs.Names.{parameter_faults_within}
use Rattle.v_tree.specs.Views.{parameter_of}
use Rattle.v_tree.specs.declared.item.Param.{Param}
use Rattle.name_checks.specs.Rows.{rest-more}
use Rattle.name_checks.proofs.items.note_parameter_values.Goals as goal

pub params-preserved : goal.params-preserved
params-preserved c =
    rest-more (λ (x : Param). parameter_faults_within c.args.width c.args.scope.now (parameter_of x))
    (λ (xs : List Param). flat_map (parameter_faults_within c.args.width c.args.scope.now) (map parameter_of xs)) c.args.params.now c.params.param-index c.param-item.result
    c.params.first c.note_parameter_value.new.first _ (λ y ys. refl) c.params-test.true c.param-item.is c.in_ok-note_parameter_value.ensures c.params.invariant
