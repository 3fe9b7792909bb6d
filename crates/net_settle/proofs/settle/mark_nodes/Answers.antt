use Rattle.std.proofs.Common.{rules, true, ◌≡◌, ℕ, ◌+◌, ◌<◌, ◌++◌, ◌∷◌, [], Bool, List, ap, ◌∙◌, get_or, set, take, map, length, vec_len}
use Rattle.std.proofs.lemmas.List.{take_more, map_push}
use Rattle.vf_base.specs.declared.ids.NodeId.{NodeId}
use Rattle.vf_base.specs.Base.{node_number}
use Rattle.net_graph.specs.ConeLaws.{Marks, Marks-more}
use Rattle.net_settle.proofs.settle.mark_nodes.Goals as goal

-- one more node of the list
stepped : (nodes : List NodeId) (i : ℕ) (d : NodeId) (before later : List Bool) → i < length nodes → Marks (map node_number (take i nodes)) before later →
    node_number (get_or nodes i d) < length later → Marks (map node_number (take (i + 1) nodes)) before (set later (node_number (get_or nodes i d)) true)
stepped nodes i d before later within had low =
    let more : map node_number (take (i + 1) nodes) ≡ map node_number (take i nodes) ++ node_number (get_or nodes i d) ∷ [] =
    ap (map node_number) (take_more nodes i d within) ∙ map_push node_number (take i nodes) (get_or nodes i d) in
    rw more (Marks-more (map node_number (take i nodes)) before later (node_number (get_or nodes i d)) had low)

pub nodes-preserved : goal.nodes-preserved
nodes-preserved c =
    let in_marks : node_number (get_or c.args.nodes.now c.nodes.node-index (record { 0 = 0 })) < vec_len c.args.marks.now = c.requires c.nodes.node-index (record { 0 = 0 }) (search rules) in
    record {
      same = search rules;
      marked = stepped c.args.nodes.now c.nodes.node-index (record { 0 = 0 }) c.args.marks.now.items c.nodes.marks.items (search rules) c.nodes.invariant.marked (search rules);
    }
