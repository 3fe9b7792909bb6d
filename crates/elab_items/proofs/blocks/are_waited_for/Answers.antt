use Rattle.std.proofs.Common.{◌++◌, refl, sym, ◌∙◌}
use Rattle.std.specs.List.{list_all}
use Rattle.v_tree.specs.Trees.{has_name}
use Rattle.v_elab.specs.Blocks.{parameter_names}
use Rattle.elab_items.proofs.Rows.{tests-next}
use Rattle.elab_items.proofs.blocks.are_waited_for.Goals as goal

pub reads-preserved : goal.reads-preserved
reads-preserved c finds names known =
    tests-next (has_name (names ++ parameter_names c.args.scope.now)) (list_all (has_name (names ++ parameter_names c.args.scope.now))) c.args.reads.now c.reads.name-index c.name-item.result _
    (λ y ys. refl)
    c.reads-test.true c.name-item.is (sym (c.is_waited_for.ensures finds names known) ∙ c.if-not-is_waited_for.false) (c.reads.invariant finds names known)
