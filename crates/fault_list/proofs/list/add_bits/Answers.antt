use Rattle.std.proofs.Common.{arith, ◌≡◌}
use Rattle.vf_base.specs.Base.{object_number}
use Rattle.v_design.specs.Designs.{VariableBit}
use Rattle.fault_list.proofs.Growing.{more_bits, all_bits}
use Rattle.fault_list.proofs.list.add_bits.Goals as goal

pub bits-preserved : goal.bits-preserved
bits-preserved c = more_bits (VariableBit (object_number c.args.number)) 0 c.bits.bit c.bits.bit _ _ _ (omega arith) c.bits.invariant c.in_ok-push_both.ensures

pub returns : goal.returns
returns c = let done : c.bits.bit ≡ c.args.width = omega arith in all_bits (VariableBit (object_number c.args.number)) 0 c.bits.bit c.args.width _ _ done c.bits.invariant
