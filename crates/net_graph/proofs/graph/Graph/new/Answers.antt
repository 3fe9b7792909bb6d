use Rattle.std.proofs.Common.{rules, arith, ◌≡◌, ℕ, ◌+◌, ◌<◌, ◌∙◌, ◌++◌, ◌∷◌, [], List, ap, sym, subst, take, map, length, vec_len}
use Rattle.std.specs.Prelude.{slice_get, Some, Vec}
use Rattle.std.specs.declared.alloc.Global.{Global}
use Rattle.std.proofs.lemmas.List.{take_more, map_push, length-map, length-take-le}
use Rattle.std.proofs.lemmas.Option.{get_or_from_slice_get, slice_get_within}
use Rattle.vf_base.specs.declared.ids.ObjectId.{ObjectId}
use Rattle.vf_base.specs.Base.{object_number}
use Rattle.v_design.specs.Plain.{node_of}
use Rattle.v_design.specs.Designs.{FlatNode}
use Rattle.v_design.specs.PlainDesigns.{design_of}
use Rattle.net_graph.specs.Tables.{object_lists, node_lists}
use Rattle.net_graph.specs.TableLaws.{InputsAdded, TablesBuilt, TablesBuilt-more}
use Rattle.net_graph.specs.RuleLaws.{inputs_below, node_in}
use Rattle.net_graph.proofs.graph.Graph.new.Goals as goal

-- the tables of one node more
stepped : (nodes : List FlatNode) (k : ℕ) (node : FlatNode) (seen : List ℕ) (inputs lists : List (List ℕ)) (later once : List ℕ) (now : List (List ℕ)) (all : List (List ℕ)) →
    slice_get nodes k ≡ Some node → all ≡ inputs ++ once ∷ [] → TablesBuilt (take k nodes) seen inputs lists → InputsAdded k node.inputs lists later once now →
    TablesBuilt (take (k + 1) nodes) later all now
stepped nodes k node seen inputs lists later once now all at pushed had added =
    let within : k < length nodes = slice_get_within nodes k node at in
    let more : take (k + 1) nodes ≡ take k nodes ++ node ∷ [] = take_more nodes k node within ∙ ap (λ n. take k nodes ++ n ∷ []) (get_or_from_slice_get nodes k node node at) in
    let counted : length (take k nodes) ≡ k = length-take-le k nodes (omega arith) in
    rw (more, pushed) (TablesBuilt-more (take k nodes) seen inputs lists node later once now had (subst (λ n. InputsAdded n node.inputs lists later once now) (sym counted) added))

pub add_inputs-requires-clause-are_objects : goal.add_inputs-requires-clause-are_objects
add_inputs-requires-clause-are_objects c =
    inputs_below (design_of c.args.design.now) c.nodes.number (node_of c.node-item.result) c.as_slice-node_inputs.result.now (vec_len c.nodes.seen) c.args.design.now.rules
    (node_in c.args.design.now.nodes c.as_slice-node-items.result.now c.nodes.number c.node-item.result c.as_slice-node-items.ensures c.nodes-test.true c.node-item.is)
    (ap (map object_number) (sym c.as_slice-node_inputs.ensures)) (rw length-map (search rules))

pub nodes-preserved : goal.nodes-preserved
nodes-preserved c = record {
  built =
      stepped (design_of c.args.design.now).nodes c.nodes.number (node_of c.node-item.result) c.nodes.seen.items (object_lists c.nodes.inputs.items) (node_lists c.nodes.readers.items)
      _ (map object_number c.in_ok-once.once.items) _ _
      (node_in c.args.design.now.nodes c.as_slice-node-items.result.now c.nodes.number c.node-item.result c.as_slice-node-items.ensures c.nodes-test.true c.node-item.is)
      (ap object_lists c.in_ok-push.ensures.items ∙ map_push (λ (list : Vec ObjectId Global). map object_number list.items) c.nodes.inputs.items c.in_ok-once.once)
      c.nodes.invariant.built
      (subst (λ inputs. InputsAdded c.nodes.number (map object_number inputs) (node_lists c.nodes.readers.items) c.add_inputs.new.seen.items (map object_number c.in_ok-once.once.items)
      (node_lists c.add_inputs.new.readers.items)) c.as_slice-node_inputs.ensures c.in_ok-once.ensures.added);
  seen_length = search rules;
  readers_length = search rules;
}
