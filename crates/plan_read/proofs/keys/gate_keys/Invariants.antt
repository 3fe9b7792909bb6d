use Rattle.std.proofs.Common.{◌≡◌, map, take, vec_len}
use Rattle.v_design.specs.Plain.{node_of}
use Rattle.key_index.specs.Places.{keys_of}
use Rattle.plan_read.specs.Stems.{gate_key}
use Rattle.plan_read.proofs.keys.gate_keys.Given as goal

abbrev pub invariant-nodes : goal.invariant-nodes
invariant-nodes l = record {
  keys : keys_of l.keys.items ≡ map gate_key (map node_of (take l.node-index l.nodes));
  len : vec_len l.keys ≡ l.node-index;
}
