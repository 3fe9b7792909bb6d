use Rattle.std.proofs.Common.{List, ◌++◌, subst}
use Rattle.std.proofs.lemmas.List.{take_all}
use Rattle.elab_parts.specs.PartViews.{parts_of}
use Rattle.elab_parts.specs.declared.part.Part.{Part}
use Rattle.elab_walk.specs.CountViews.{AreCounts}
use Rattle.elab_walk.proofs.Counting.{counted-more}
use Rattle.elab_walk.proofs.counts.Counts.add_all.Goals as goal

pub parts-preserved : goal.parts-preserved
parts-preserved c before counted =
    counted-more before c.args.parts.now c.parts.part-index c.part-item.result c.add.new.self c.parts-test.true c.part-item.is (c.add.ensures _ (c.parts.invariant before counted))

pub returns : goal.returns
returns c before counted =
    subst (λ (ps : List Part). AreCounts (before ++ parts_of ps) c.parts.self) (take_all c.parts.part-index c.args.parts.now c.parts-test.false) (c.parts.invariant before counted)
