use Rattle.std.proofs.Common.{◌≡◌, ◌-◌, ◌^◌, map, take, min}
use Rattle.std.specs.Prelude.{sum_by}
use Rattle.vf_base.specs.Base.{object_number}
use Rattle.v_design.specs.Designs.{width_in}
use Rattle.v_design.specs.PlainDesigns.{design_of}
use Rattle.fault_list.proofs.count.bits_of_outputs.Given as goal

abbrev pub invariant-outputs : goal.invariant-outputs
invariant-outputs l = l.count ≡ min (sum_by (width_in (design_of l.design)) (map object_number (take l.output-index l.outputs))) (2 ^ 64 - 1)
