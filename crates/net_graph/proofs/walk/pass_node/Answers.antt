use Rattle.std.proofs.Common.{rules, arith, ◌*◌, ◌<◌, ◌∙◌, ap, sym, subst, get_or, length, map, min, vec_len, List, ℕ}
use Rattle.std.specs.Prelude.{sum_by}
use Rattle.std.proofs.lemmas.List.{length-map}
use Rattle.vf_base.specs.declared.ids.ObjectId.{ObjectId}
use Rattle.vf_base.specs.Base.{object_number}
use Rattle.v_design.specs.Plain.{node_of}
use Rattle.v_design.specs.Paths.{path_weight}
use Rattle.v_design.specs.PlainDesigns.{design_of}
use Rattle.net_graph.specs.CountLaws.{WritesCounts}
use Rattle.net_graph.specs.Walks.{AddsReaders}
use Rattle.net_graph.specs.RuleLaws.{distinct_below, outputs_below, node_in, distinct_inputs_at-node}
use Rattle.net_graph.proofs.walk.pass_node.Goals as goal

pub bounds-nodes-number : goal.bounds-nodes-number
bounds-nodes-number c = omega (arith, c.requires.is_node, ap length c.as_slice-nodes.ensures, length-map c.args.graph.now.design.now.nodes node_of)

pub paths_through_node-through-requires : goal.paths_through_node-through-requires
paths_through_node-through-requires c =
    let low : c.args.number < length c.as_slice-nodes.result.now = omega (arith, c.requires.is_node, ap length c.as_slice-nodes.ensures, length-map c.args.graph.now.design.now.nodes node_of) in
    let at = node_in c.args.graph.now.design.now.nodes c.as_slice-nodes.result.now c.args.number c.index-nodes-number.result c.as_slice-nodes.ensures low c.index-nodes-number.is in
    distinct_below (design_of c.args.graph.now.design.now) c.args.number (node_of c.index-nodes-number.result) c.inputs_of.result.now (vec_len c.args.counts.now)
    c.args.graph.now.design.now.rules at
    (c.inputs_of.ensures ∙ distinct_inputs_at-node (design_of c.args.graph.now.design.now) c.args.number (node_of c.index-nodes-number.result) at) (search rules)

pub write_counts-requires-clause-are_objects : goal.write_counts-requires-clause-are_objects
write_counts-requires-clause-are_objects c =
    let low : c.args.number < length c.as_slice-nodes.result.now = omega (arith, c.requires.is_node, ap length c.as_slice-nodes.ensures, length-map c.args.graph.now.design.now.nodes node_of) in
    outputs_below (design_of c.args.graph.now.design.now) c.args.number (node_of c.index-nodes-number.result) c.as_slice-outputs.result.now (vec_len c.args.counts.now)
    c.args.graph.now.design.now.rules
    (node_in c.args.graph.now.design.now.nodes c.as_slice-nodes.result.now c.args.number c.index-nodes-number.result c.as_slice-nodes.ensures low c.index-nodes-number.is)
    (ap (map object_number) (sym c.as_slice-outputs.ensures)) (search rules)

pub add_all_readers-requires-clause-are_objects : goal.add_all_readers-requires-clause-are_objects
add_all_readers-requires-clause-are_objects c =
    let low : c.args.number < length c.as_slice-nodes.result.now = omega (arith, c.requires.is_node, ap length c.as_slice-nodes.ensures, length-map c.args.graph.now.design.now.nodes node_of) in
    outputs_below (design_of c.args.graph.now.design.now) c.args.number (node_of c.index-nodes-number.result) c.as_slice-outputs.result.now
    (length (design_of c.args.graph.now.design.now).objects) c.args.graph.now.design.now.rules
    (node_in c.args.graph.now.design.now.nodes c.as_slice-nodes.result.now c.args.number c.index-nodes-number.result c.as_slice-nodes.ensures low c.index-nodes-number.is)
    (ap (map object_number) (sym c.as_slice-outputs.ensures)) (omega arith)

pub returns-clause-passed : goal.returns-clause-passed
returns-clause-passed c =
    let low : c.args.number < length c.as_slice-nodes.result.now = omega (arith, c.requires.is_node, ap length c.as_slice-nodes.ensures, length-map c.args.graph.now.design.now.nodes node_of) in
    let at = node_in c.args.graph.now.design.now.nodes c.as_slice-nodes.result.now c.args.number c.index-nodes-number.result c.as_slice-nodes.ensures low c.index-nodes-number.is in
    record {
      node = node_of c.index-nodes-number.result;
      is = at;
      written =
          subst (λ (through : ℕ). WritesCounts (object_number c.args.from) through (node_of c.index-nodes-number.result).outputs c.args.counts.now.items c.write_counts.new.counts.items)
          (c.paths_through_node-through.ensures
          ∙ ap (λ inputs. min 2 (path_weight (node_of c.index-nodes-number.result).kind * sum_by (λ object. get_or c.args.counts.now.items object 0) inputs))
          (c.inputs_of.ensures ∙ distinct_inputs_at-node (design_of c.args.graph.now.design.now) c.args.number (node_of c.index-nodes-number.result) at))
          (subst (λ (outputs : List ObjectId). WritesCounts (object_number c.args.from) c.paths_through_node-through.result (map object_number outputs) c.args.counts.now.items
          c.write_counts.new.counts.items) c.as_slice-outputs.ensures c.write_counts.ensures.written);
      added =
          subst (λ (outputs : List ObjectId). AddsReaders (design_of c.args.graph.now.design.now).nodes (map object_number outputs) c.args.walked.now c.add_all_readers.new.walked)
          c.as_slice-outputs.ensures c.add_all_readers.ensures;
    }
