use Rattle.vf_base.specs.Base.{object_number}
use Rattle.plan_read.proofs.Grown.{bits-more}
use Rattle.plan_read.proofs.watch.add_object_bits.Goals as goal

pub bits-preserved : goal.bits-preserved
bits-preserved c = bits-more (object_number c.args.object) c.bits.bit _ _ _ c.bits.invariant c.in_ok-push_bit.ensures
