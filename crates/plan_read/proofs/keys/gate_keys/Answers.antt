use Rattle.std.proofs.Common.{◌≡◌, ◌∙◌, ap, rules}
use Rattle.v_design.specs.Plain.{node_of}
use Rattle.plan_read.specs.Stems.{stem, gate_key}
use Rattle.key_index.specs.KeyLists.{keys-more}
use Rattle.plan_read.proofs.keys.gate_keys.Goals as goal

pub nodes-preserved : goal.nodes-preserved
nodes-preserved c = record {
  keys = keys-more node_of gate_key c.args.nodes.now c.nodes.node-index c.node-item.result _ _ _ c.nodes-test.true c.node-item.is c.nodes.invariant.keys c.in_ok-push.ensures.items
      (c.as_bytes.ensures);
  len = search rules;
}
