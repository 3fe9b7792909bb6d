use Rattle.std.proofs.Common.{[], Some, option_map, ap, ap₂, sym, ◌∙◌}
use Rattle.v_design.specs.Sized.{BothWithWhole, LeftWithWhole, BothTogether, EachAlone}
use Rattle.v_names.specs.Readings.{Size, larger_size, alone_faults, tree_at}
use Rattle.v_names.specs.SizedTrees.{SizedBinary}
use Rattle.v_names.specs.SizeViews.{size_of}
use Rattle.v_width.specs.SizedViews.{sized_of}
use Rattle.expr_sizes.proofs.ReadingLaws.{binary-read, left-faults, same-faults}
use Rattle.expr_sizes.proofs.operator.binary_reading.Goals as goal

pub returns-in_ok-read-in-BothWithWhole : goal.returns-in_ok-read-in-BothWithWhole
returns-in_ok-read-in-BothWithWhole c a b h k =
    let i = c.in_ok-read-in-BothWithWhole.ensures in
    binary-read c.args.operator BothWithWhole a b (sized_of c.args.left.tree) (sized_of c.args.right.tree) _ _ _ (sym c.in-BothWithWhole.ensures)
    (ap (option_map size_of) i.size_is ∙ c.larger_of-larger.ensures ∙ ap₂ larger_size h.size_is k.size_is)
    (same-faults _ _ _ _ i.faults_are (c.together-faults.ensures a.here a.inside b.here b.inside h.faults_are k.faults_are))
    (λ w s. ap₂ (SizedBinary w s c.args.operator) (h.tree_is w s) (k.tree_is w s)) i.tree_is

pub returns-in_ok-read-in-LeftWithWhole : goal.returns-in_ok-read-in-LeftWithWhole
returns-in_ok-read-in-LeftWithWhole c a b h k =
    let i = c.in_ok-read-in-LeftWithWhole.ensures in
    binary-read c.args.operator LeftWithWhole a b (sized_of c.args.left.tree) (sized_of c.tree_alone-amount.result) _ _ _ (sym c.in-LeftWithWhole.ensures)
    (ap (option_map size_of) i.size_is ∙ h.size_is)
    (same-faults _ _ _ _ i.faults_are
    (left-faults a.here _ _ (c.together-shift_faults.ensures a.here a.inside [] (alone_faults b) h.faults_are (c.apart-amount_faults.ensures b.here b.inside k.faults_are))))
    (λ w s. ap₂ (SizedBinary w s c.args.operator) (h.tree_is w s) (c.tree_alone-amount.ensures b k)) i.tree_is

pub returns-in_ok-read-in-BothTogether : goal.returns-in_ok-read-in-BothTogether
returns-in_ok-read-in-BothTogether c a b h k =
    let i = c.in_ok-read-in-BothTogether.ensures in
    let z = c.larger_of-common.ensures ∙ ap₂ larger_size h.size_is k.size_is in
    binary-read c.args.operator BothTogether a b (sized_of c.tree_at-first.result) (sized_of c.tree_at-second.result) _ _ _ (sym c.in-BothTogether.ensures)
    (ap (option_map size_of) i.size_is ∙ ap (λ (x : Size). Some x) c.one_bit.ensures)
    (same-faults _ _ _ _ i.faults_are
    (c.apart-inner_faults.ensures _ _ (c.together-operand_faults.ensures a.here a.inside b.here b.inside h.faults_are k.faults_are)))
    (λ w s. ap₂ (SizedBinary w s c.args.operator) (c.tree_at-first.ensures a h ∙ ap (tree_at a) z) (c.tree_at-second.ensures b k ∙ ap (tree_at b) z)) i.tree_is

pub returns-in_ok-read-in-EachAlone : goal.returns-in_ok-read-in-EachAlone
returns-in_ok-read-in-EachAlone c a b h k =
    let i = c.in_ok-read-in-EachAlone.ensures in
    binary-read c.args.operator EachAlone a b (sized_of c.tree_alone-one.result) (sized_of c.tree_alone-other.result) _ _ _ (sym c.in-EachAlone.ensures)
    (ap (option_map size_of) i.size_is ∙ ap (λ (x : Size). Some x) c.one_bit-in-EachAlone.ensures)
    (same-faults _ _ _ _ i.faults_are
    (c.together-each_faults.ensures [] (alone_faults a) [] (alone_faults b) (c.apart-left_faults.ensures a.here a.inside h.faults_are) (c.apart-right_faults.ensures b.here b.inside k.faults_are)))
    (λ w s. ap₂ (SizedBinary w s c.args.operator) (c.tree_alone-one.ensures a h) (c.tree_alone-other.ensures b k)) i.tree_is
