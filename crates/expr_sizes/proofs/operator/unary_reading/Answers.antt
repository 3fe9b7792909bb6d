use Rattle.std.proofs.Common.{◌≡◌, Some, ap, sym, rules}
use Rattle.v_names.specs.Readings.{Size}
use Rattle.v_names.specs.SizedTrees.{SizedUnary}
use Rattle.v_width.specs.SizedViews.{sized_of}
use Rattle.expr_sizes.proofs.ReadingLaws.{unary-whole, unary-alone}
use Rattle.expr_sizes.proofs.operator.unary_reading.Goals as goal

pub returns-in_ok-operand-in-OperandWithWhole : goal.returns-in_ok-operand-in-OperandWithWhole
returns-in_ok-operand-in-OperandWithWhole c a h =
    let x : sized_of c.in_ok-operand-in-OperandWithWhole.operand.value ≡ sized_of c.args.operand.tree = search rules in
    unary-whole c.args.operator a c.args.operand.tree _ c.one_bit.result.width c.one_bit.result.signed (sym c.in-OperandWithWhole.ensures) h.size_is h.faults_are h.tree_is
    (ap (SizedUnary c.one_bit.result.width c.one_bit.result.signed c.args.operator) x)

pub returns-in_ok-operand-in-OperandAlone : goal.returns-in_ok-operand-in-OperandAlone
returns-in_ok-operand-in-OperandAlone c a h =
    let x : sized_of c.in_ok-operand-in-OperandAlone.operand.value ≡ sized_of c.tree_alone-alone.result = search rules in
    let z = c.one_bit-in-OperandAlone-2.result in
    unary-alone c.args.operator a (sized_of c.tree_alone-alone.result) _ z.width z.signed (sym c.in-OperandAlone.ensures) (ap (λ (z : Size). Some z) c.one_bit-in-OperandAlone.ensures)
    (c.apart-inner_faults.ensures a.here a.inside h.faults_are) (c.tree_alone-alone.ensures a h) (ap (SizedUnary z.width z.signed c.args.operator) x)
