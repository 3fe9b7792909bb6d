use Rattle.std.proofs.Common.{List, map, flat_map, refl}
use Rattle.v_elab.specs.ItemFaults.{size_faults}
use Rattle.v_tree.specs.Trees.{SourceParameter}
use Rattle.v_tree.specs.Views.{expression_of, parameter_of}
use Rattle.v_tree.specs.declared.item.Param.{Param}
use Rattle.name_checks.specs.Rows.{rest-more}
use Rattle.item_checks.proofs.items.note_values.Goals as goal

pub params-preserved : goal.params-preserved
params-preserved c =
    rest-more (λ (x : Param). size_faults c.args.scope.now (expression_of x.value)) (λ (xs : List Param).
    flat_map (λ (p : SourceParameter). size_faults c.args.scope.now p.value) (map parameter_of xs)) c.args.params.now c.params.param-index c.param-item.result
    c.params.first c.note_size.new.first _ (λ y ys. refl) c.params-test.true c.param-item.is c.in_ok-note_size.ensures c.params.invariant
