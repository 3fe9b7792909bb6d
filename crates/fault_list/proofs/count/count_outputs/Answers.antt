use Rattle.std.proofs.Common.{◌≡◌, ◌<◌, length, map, take, get_or, min, ap, sym, subst, ◌∙◌, ◌^◌, ◌-◌}
use Rattle.std.specs.Prelude.{slice_get, Some, sum_by}
use Rattle.vf_base.specs.Base.{object_number}
use Rattle.v_design.specs.Designs.{width_in}
use Rattle.vf_base.specs.Lists.{joined, map_numbered}
use Rattle.v_design.specs.Plain.{node_of}
use Rattle.v_design.specs.PlainDesigns.{design_of}
use Rattle.v_design.specs.RulesHold.{rules_hold}
use Rattle.v_design.specs.Sites.{output_sites}
use Rattle.fault_list.proofs.Counting.{capped, count-more, output-count}
use Rattle.fault_list.proofs.Outputs.{node_in}
use Rattle.fault_list.proofs.count.count_outputs.Goals as goal

pub nodes-preserved : goal.nodes-preserved
nodes-preserved c =
    let at : slice_get (design_of c.args.design.now).nodes c.nodes.node-index ≡ Some (node_of c.node-item.result) =
    node_in c.args.design.now.nodes c.as_slice-node-items.result.now c.nodes.node-index c.node-item.result c.as_slice-node-items.ensures c.nodes-test.true c.node-item.is in
    let bits : length (output_sites (design_of c.args.design.now) c.nodes.node-index (node_of c.node-item.result)) ≡ sum_by (width_in (design_of c.args.design.now))
    (map object_number c.node-item.result.outputs) =
    output-count (design_of c.args.design.now) c.nodes.node-index (node_of c.node-item.result) (rules_hold (design_of c.args.design.now) c.args.design.now.rules) at in
    let one : c.bits_of_outputs.result ≡ min (length (output_sites (design_of c.args.design.now) c.nodes.node-index (node_of c.node-item.result))) (2 ^ 64 - 1) =
    c.bits_of_outputs.ensures ∙ (ap (λ l. min (sum_by (width_in (design_of c.args.design.now)) (map object_number l)) (2 ^ 64 - 1)) c.as_slice.ensures ∙ ap (λ n. min n (2 ^ 64 - 1)) (sym bits)) in
    count-more node_of (output_sites (design_of c.args.design.now)) c.args.design.now.nodes c.nodes.node-index c.node-item.result (2 ^ 64 - 1) c.saturating_add-count.result
    (subst (λ l. c.nodes.node-index < length l) c.as_slice-node-items.ensures c.nodes-test.true)
    (subst (λ l. c.node-item.result ≡ get_or l c.nodes.node-index c.node-item.result) c.as_slice-node-items.ensures c.node-item.is)
    (capped (length (joined (map_numbered (output_sites (design_of c.args.design.now)) 0 (map node_of (take c.nodes.node-index c.args.design.now.nodes)))))
    (length (output_sites (design_of c.args.design.now) c.nodes.node-index (node_of c.node-item.result)))
    (2 ^ 64 - 1) c.nodes.count c.bits_of_outputs.result c.saturating_add-count.result c.nodes.invariant one c.saturating_add-count.ensures)
