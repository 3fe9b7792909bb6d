use Rattle.std.proofs.Common.{◌<◌, ◌≤◌, length, subst, ap, arith}
use Rattle.v_design.specs.Plain.{expression_of}
use Rattle.process_operands.specs.Bounds.{Bounds, reads_most}
use Rattle.process_operands.specs.BoundsLaws.{bounds-expression}
use Rattle.process_code.proofs.state.ProcState.branch.Goals as goal

pub read-requires-clause-there : goal.read-requires-clause-there
read-requires-clause-there g c =
    let limit = length (g.V.Values.values c.args.values.now) in
    let operands = c.deref.result.now in
    let e = expression_of c.args.condition.now in
    (subst (Bounds (reads_most e) limit operands) c.in-Err.ensures.needs (bounds-expression limit e operands c.requires.there)).0

pub read-requires-clause-space : goal.read-requires-clause-space
read-requires-clause-space g c =
    let limit = length (g.V.Values.values c.args.values.now) in
    let operands = c.deref.result.now in
    let e = expression_of c.args.condition.now in
    omega (arith, (subst (Bounds (reads_most e) limit operands) c.in-Err.ensures.needs (bounds-expression limit e operands c.requires.there)).1, c.requires.space, ap length c.deref.ensures.value)
