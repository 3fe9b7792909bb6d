use Rattle.std.proofs.Common.{sym}
use Rattle.vf_base.specs.Base.{object_number}
use Rattle.v_design.specs.Plain.{memory_of}
use Rattle.expr_eval.specs.PartsLaws.{word_there}
use Rattle.expr_eval.proofs.operand.word_bits.Goals as goal

pub value-requires : goal.value-requires
value-requires g c = word_there (g.V.Values.values c.args.values.now) (memory_of c.args.memory.now) c.args.index (object_number c.in-Some.object) c.requires.there (sym c.in-Some.ensures)
