use Rattle.std.proofs.Common.{◌≡◌, ◌++◌, take}
use Rattle.vf_base.specs.Base.{node_number}
use Rattle.v_design.specs.PlainDesigns.{design_of}
use Rattle.fault_list.specs.Listed.{stuck, both, bits_of_outputs}
use Rattle.fault_list.proofs.list.add_outputs_of.Given as goal

abbrev pub invariant-outputs : goal.invariant-outputs
invariant-outputs l = stuck l.faults.items ≡ stuck l.initial.faults.items ++ both (bits_of_outputs (design_of l.design) (node_number l.number) (take l.object-index l.outputs))
