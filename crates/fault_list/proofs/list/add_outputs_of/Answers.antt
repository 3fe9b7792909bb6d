use Rattle.std.proofs.Common.{ap, ◌∙◌, ◌++◌, map, get_or}
use Rattle.vf_base.specs.Base.{node_number}
use Rattle.v_design.specs.Designs.{OutputBit, width_in}
use Rattle.v_design.specs.Expressions.{up_from}
use Rattle.v_design.specs.PlainDesigns.{design_of}
use Rattle.fault_list.specs.Listed.{stuck, both}
use Rattle.fault_list.proofs.Growing.{more_joined}
use Rattle.fault_list.proofs.list.add_outputs_of.Goals as goal

pub outputs-preserved : goal.outputs-preserved
outputs-preserved c =
    more_joined (λ object. map (OutputBit (node_number c.args.number) object) (up_from 0 (width_in (design_of c.args.design.now) object))) c.args.outputs.now c.outputs.object-index 0 _ _ _
    c.outputs-test.true c.outputs.invariant
    (c.in_ok-add_output_bits.ensures
    ∙ ap (λ n. stuck c.outputs.faults.items ++ both (map (OutputBit (node_number c.args.number) (get_or c.args.outputs.now c.outputs.object-index 0)) (up_from 0 n))) c.width_of-width.ensures)
