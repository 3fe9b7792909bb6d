use Rattle.std.proofs.Common.{◌-◌, length, refl}
use Rattle.process_operands.specs.OperandLaws.{passes, stops}
use Rattle.process_operands.proofs.operand.pass_pieces.Goals as goal

pub returns-then-pieces-there-clause-has : goal.returns-then-pieces-there-clause-has
returns-then-pieces-there-clause-has c =
    passes c.args.pieces.now c.args.operands.now c.args.used.now c.saturating_sub-there.result
    (length c.args.operands.now - c.saturating_sub-there.result) c.saturating_sub-there.ensures refl c.if-pieces-there.true

pub returns-else-pieces-there-clause-needs : goal.returns-else-pieces-there-clause-needs
returns-else-pieces-there-clause-needs c =
    stops c.args.pieces.now c.args.operands.now c.args.used.now c.saturating_sub-there.result _ c.saturating_sub-there.ensures c.if-pieces-there.false
