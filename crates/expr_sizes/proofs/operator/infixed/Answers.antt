use Rattle.std.proofs.Common.{◌≡◌, false, refl, ap, ap₂, rules, ◌∙◌}
use Rattle.v_names.specs.Readings.{Size}
use Rattle.v_names.specs.SizedTrees.{SizedBinary}
use Rattle.v_width.specs.SizedViews.{sized_of}
use Rattle.expr_sizes.proofs.operator.infixed.Goals as goal

pub returns : goal.returns
returns c =
    let l : sized_of c.in_ok-left.left.value ≡ sized_of c.args.left = search rules in
    let r : sized_of c.in_ok-right.right.value ≡ sized_of c.args.right = search rules in
    record {
      size_is = refl;
      faults_are = refl;
      tree_is =
          ap (λ (z : Size). SizedBinary z.width z.signed c.args.operator (sized_of c.in_ok-left.left.value) (sized_of c.in_ok-right.right.value)) c.one_bit.ensures
          ∙ ap₂ (SizedBinary 1 false c.args.operator) l r;
    }
