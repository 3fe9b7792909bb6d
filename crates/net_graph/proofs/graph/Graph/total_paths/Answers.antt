use Rattle.std.proofs.Common.{rules, ◌*◌, ◌∙◌, ap, sym, subst, get_or, map, min, vec_len}
use Rattle.std.specs.Prelude.{sum_by}
use Rattle.std.proofs.lemmas.List.{length-map}
use Rattle.vf_base.specs.Base.{object_number}
use Rattle.v_design.specs.Plain.{node_of}
use Rattle.v_design.specs.Paths.{path_weight}
use Rattle.v_design.specs.PlainDesigns.{design_of}
use Rattle.net_graph.specs.SpreadLaws.{WritesTotals, TotalsBefore-none, TotalsBefore-more, AreTotals-all}
use Rattle.net_graph.specs.RuleLaws.{distinct_below, outputs_below, node_in, distinct_inputs_at-node}
use Rattle.net_graph.proofs.graph.Graph.total_paths.Goals as goal

pub nodes-init : goal.nodes-init
nodes-init c = record {
  totals = TotalsBefore-none (design_of c.args.self.now.design.now) c.args.counts.now c.start_totals.new.totals.items c.start_totals.ensures;
  same = search rules;
}

pub paths_through_node-through-requires : goal.paths_through_node-through-requires
paths_through_node-through-requires c =
    let at = node_in c.args.self.now.design.now.nodes c.as_slice-node-items.result.now c.nodes.number c.node-item.result c.as_slice-node-items.ensures c.nodes-test.true c.node-item.is in
    distinct_below (design_of c.args.self.now.design.now) c.nodes.number (node_of c.node-item.result) c.inputs_of.result.now (vec_len c.nodes.totals) c.args.self.now.design.now.rules at
    (c.inputs_of.ensures ∙ distinct_inputs_at-node (design_of c.args.self.now.design.now) c.nodes.number (node_of c.node-item.result) at) (search rules)

pub write_totals-requires-clause-are_objects : goal.write_totals-requires-clause-are_objects
write_totals-requires-clause-are_objects c =
    outputs_below (design_of c.args.self.now.design.now) c.nodes.number (node_of c.node-item.result) c.as_slice.result.now (vec_len c.nodes.totals) c.args.self.now.design.now.rules
    (node_in c.args.self.now.design.now.nodes c.as_slice-node-items.result.now c.nodes.number c.node-item.result c.as_slice-node-items.ensures c.nodes-test.true c.node-item.is)
    (ap (map object_number) (sym c.as_slice.ensures)) (search rules)

pub nodes-preserved : goal.nodes-preserved
nodes-preserved c =
    let at = node_in c.args.self.now.design.now.nodes c.as_slice-node-items.result.now c.nodes.number c.node-item.result c.as_slice-node-items.ensures c.nodes-test.true c.node-item.is in
    record {
      totals =
          TotalsBefore-more (design_of c.args.self.now.design.now) c.args.self.now.design.now.rules c.args.counts.now c.nodes.number (node_of c.node-item.result) at
          c.nodes.totals.items c.write_totals.new.totals.items c.paths_through_node-through.result c.requires.counts_sized (search rules) c.nodes.invariant.totals
          (c.paths_through_node-through.ensures
          ∙ ap (λ inputs. min 2 (path_weight (node_of c.node-item.result).kind * sum_by (λ object. get_or c.nodes.totals.items object 0) inputs))
          (c.inputs_of.ensures ∙ distinct_inputs_at-node (design_of c.args.self.now.design.now) c.nodes.number (node_of c.node-item.result) at))
          (subst (λ outputs. WritesTotals c.args.counts.now c.paths_through_node-through.result (map object_number outputs) c.nodes.totals.items c.write_totals.new.totals.items) c.as_slice.ensures
          c.write_totals.ensures.written);
      same = search rules;
    }

pub returns-clause-totals : goal.returns-clause-totals
returns-clause-totals c =
    AreTotals-all (design_of c.args.self.now.design.now) c.args.self.now.design.now.rules c.args.counts.now c.nodes.number c.nodes.totals.items
    (rw (length-map, sym c.as_slice-node-items.ensures) c.nodes-test.false) c.nodes.invariant.totals
