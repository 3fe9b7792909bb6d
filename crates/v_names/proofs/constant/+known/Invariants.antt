use Rattle.expr_eval.specs.Operands.{bits_so_far}
use Rattle.v_names.proofs.PartLaws.{JoinedSo}
use Rattle.v_names.proofs.constant.+known.Given as goal

abbrev pub invariant-joined-parts : goal.invariant-joined-parts
invariant-joined-parts l = JoinedSo l.scope l.parts l.part-index (bits_so_far l.bits)
