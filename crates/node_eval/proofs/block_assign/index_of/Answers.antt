use Rattle.std.proofs.Common.{subst}
use Rattle.v_design.specs.Plain.{expression_of, target_of, memory_of}
use Rattle.v_design.specs.Expressions.{memory_pieces}
use Rattle.v_design.specs.Reads.{named_in, named_in_target}
use Rattle.expr_eval.specs.Operands.{IsThere, AreThere}
use Rattle.expr_eval.specs.WidthLaws.{AllHold-right}
use Rattle.node_eval.proofs.block_assign.index_of.Goals as goal

pub eval-requires-in-Word-clause-there : goal.eval-requires-in-Word-clause-there
eval-requires-in-Word-clause-there g c =
    AllHold-right (IsThere (g.V.Values.values c.args.values.now)) (memory_pieces (memory_of c.in-Word.field-0)) (named_in (expression_of c.in-Word.index))
    (subst (λ t. AreThere (g.V.Values.values c.args.values.now) (named_in_target (target_of t))) c.in-Word.is c.requires.there)
