use Rattle.std.proofs.Common.{◌≡◌, ◌++◌, map}
use Rattle.vf_base.specs.Base.{object_number, node_number}
use Rattle.v_design.specs.Designs.{OutputBit}
use Rattle.v_design.specs.Expressions.{up_from}
use Rattle.fault_list.specs.Listed.{stuck, both}
use Rattle.fault_list.proofs.list.add_output_bits.Given as goal

abbrev pub invariant-bits : goal.invariant-bits
invariant-bits l = stuck l.faults.items ≡ stuck l.initial.faults.items ++ both (map (OutputBit (node_number l.number) (object_number l.object)) (up_from 0 l.bit))
