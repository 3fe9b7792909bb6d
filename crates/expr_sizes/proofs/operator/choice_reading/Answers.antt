use Rattle.std.proofs.Common.{◌≡◌, [], ap₂, rules, ◌++◌, ◌∙◌, ap}
use Rattle.v_names.specs.Readings.{larger_size, alone_faults}
use Rattle.v_names.specs.SizedTrees.{SizedChoice}
use Rattle.v_width.specs.SizedViews.{sized_of}
use Rattle.expr_sizes.proofs.ReadingLaws.{choice-read}
use Rattle.expr_sizes.proofs.operator.choice_reading.Goals as goal

pub returns : goal.returns
returns c x a b g h k =
    let p : sized_of c.in_ok-condition.condition.value ≡ sized_of c.tree_alone-test.result = search rules in
    let q : sized_of c.in_ok-first.first.value ≡ sized_of c.args.first.tree = search rules in
    let r : sized_of c.in_ok-second.second.value ≡ sized_of c.args.second.tree = search rules in
    let z = c.one_bit.result in
    choice-read x a b (sized_of c.tree_alone-test.result) c.args.first.tree c.args.second.tree _ z.width z.signed (c.larger_of-size.ensures ∙ ap₂ larger_size h.size_is k.size_is)
    (c.together-faults.ensures [] (alone_faults x) (a.here ++ b.here) (a.inside ++ b.inside) (c.apart-inner.ensures x.here x.inside g.faults_are)
    (c.together-branches.ensures a.here a.inside b.here b.inside h.faults_are k.faults_are))
    (c.tree_alone-test.ensures x g) h.tree_is k.tree_is
    (ap (λ t. SizedChoice z.width z.signed t (sized_of c.in_ok-first.first.value) (sized_of c.in_ok-second.second.value)) p
    ∙ ap₂ (SizedChoice z.width z.signed (sized_of c.tree_alone-test.result)) q r)
