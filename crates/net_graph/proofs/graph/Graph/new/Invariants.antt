use Rattle.std.proofs.Common.{◌≡◌, length, take, vec_len}
use Rattle.v_design.specs.PlainDesigns.{design_of}
use Rattle.net_graph.specs.Tables.{object_lists, node_lists}
use Rattle.net_graph.specs.TableLaws.{TablesBuilt}
use Rattle.net_graph.proofs.graph.Graph.new.Given as goal

abbrev pub invariant-nodes : goal.invariant-nodes
invariant-nodes l = record {
  built : TablesBuilt (take l.number (design_of l.design).nodes) l.seen.items (object_lists l.inputs.items) (node_lists l.readers.items);
  seen_length : vec_len l.seen ≡ length l.design.objects;
  readers_length : vec_len l.readers ≡ length l.design.objects;
}
