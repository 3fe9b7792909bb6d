use Rattle.std.proofs.Common.{◌≡◌, length, map, take, sym, ◌∙◌, ◌^◌, ◌-◌}
use Rattle.std.proofs.lemmas.List.{length-map}
use Rattle.v_design.specs.Designs.{GateTerminal}
use Rattle.v_design.specs.Expressions.{up_from}
use Rattle.vf_base.specs.Lists.{joined, map_numbered}
use Rattle.v_design.specs.Plain.{node_of, node_kind_of}
use Rattle.v_design.specs.Sites.{terminal_count, terminal_sites}
use Rattle.fault_list.proofs.Counting.{plain, count-more, up_from-length}
use Rattle.fault_list.proofs.count.count_terminals.Goals as goal

pub nodes-preserved : goal.nodes-preserved
nodes-preserved c =
    let terminals : c.terminals_len.result ≡ length (terminal_sites c.nodes.node-index (node_of c.node-item.result)) =
    c.terminals_len.ensures
    ∙ sym (length-map (up_from 1 (terminal_count (node_kind_of c.node-item.result.kind))) (GateTerminal c.nodes.node-index)
    ∙ up_from-length 1 (terminal_count (node_kind_of c.node-item.result.kind))) in
    count-more node_of terminal_sites c.args.nodes.now c.nodes.node-index c.node-item.result (2 ^ 64 - 1) c.saturating_add-count.result c.nodes-test.true c.node-item.is
    (plain (length (joined (map_numbered terminal_sites 0 (map node_of (take c.nodes.node-index c.args.nodes.now))))) (length (terminal_sites c.nodes.node-index (node_of c.node-item.result)))
    (2 ^ 64 - 1) c.nodes.count c.terminals_len.result c.saturating_add-count.result c.nodes.invariant terminals c.saturating_add-count.ensures)
