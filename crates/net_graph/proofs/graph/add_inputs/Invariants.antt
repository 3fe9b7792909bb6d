use Rattle.std.proofs.Common.{◌≡◌, map, take, vec_len}
use Rattle.vf_base.specs.Base.{object_number, node_number}
use Rattle.net_graph.specs.Tables.{node_lists}
use Rattle.net_graph.specs.TableLaws.{InputsAdded}
use Rattle.net_graph.proofs.graph.add_inputs.Given as goal

abbrev pub invariant-inputs : goal.invariant-inputs
invariant-inputs l = record {
  added : InputsAdded (node_number l.node) (map object_number (take l.input-index l.inputs)) (node_lists l.initial.readers.items) l.seen.items (map object_number l.once.items)
      (node_lists l.readers.items);
  seen_length : vec_len l.seen ≡ vec_len l.initial.seen;
  readers_length : vec_len l.readers ≡ vec_len l.initial.readers;
}
