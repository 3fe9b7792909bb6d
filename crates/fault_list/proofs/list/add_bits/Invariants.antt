use Rattle.std.proofs.Common.{◌≡◌, ◌++◌, map}
use Rattle.vf_base.specs.Base.{object_number}
use Rattle.v_design.specs.Designs.{VariableBit}
use Rattle.v_design.specs.Expressions.{up_from}
use Rattle.fault_list.specs.Listed.{stuck, both}
use Rattle.fault_list.proofs.list.add_bits.Given as goal

abbrev pub invariant-bits : goal.invariant-bits
invariant-bits l = stuck l.faults.items ≡ stuck l.initial.faults.items ++ both (map (VariableBit (object_number l.number)) (up_from 0 l.bit))
