use Rattle.std.proofs.Common.{◌∙◌, sym, ap, map}
use Rattle.std.specs.Option.{option_map}
use Rattle.vf_base.specs.Base.{object_number}
use Rattle.v_design.specs.Designs.{FlatNode, OutputBit}
use Rattle.vf_base.specs.Lists.{has, first_place}
use Rattle.v_design.specs.Plain.{node_of}
use Rattle.v_design.specs.PlainDesigns.{design_of}
use Rattle.fault_list.specs.Spelled.{site_by_kind}
use Rattle.fault_list.proofs.spelled.site_by_kind.Goals as goal

pub returns-in-Some : goal.returns-in-Some
returns-in-Some c =
    ap (option_map (λ node. OutputBit node (object_number c.args.object) c.args.bit))
    (c.in-Some.ensures ∙ ap (λ l. first_place (λ (node : FlatNode). has node.outputs (object_number c.args.object)) (map node_of l)) c.as_slice.ensures)
    ∙ ap (λ k. site_by_kind (design_of c.args.design.now) k (object_number c.args.object) c.args.bit) (sym c.in-Net.is)
