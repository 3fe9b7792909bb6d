use Rattle.std.proofs.Common.{rules, arith, ◌≡◌, ◌≤◌, get_or, inl, inr}
use Rattle.vf_base.specs.Base.{node_number}
use Rattle.net_settle.specs.MarkLaws.{listed_more}
use Rattle.net_settle.proofs.settle.least_of.Goals as goal

pub nodes-preserved : goal.nodes-preserved
nodes-preserved c = record {
  low = search rules;
  lower = λ n e.
      elim (listed_more c.args.nodes.now c.nodes.node-index (record { 0 = 0 }) n c.nodes-test.true e) [
        | inl before ↦ let bound : c.nodes.lowest ≤ n = c.nodes.invariant.lower n before in omega arith
        | inr here ↦ let same : node_number (get_or c.args.nodes.now c.nodes.node-index (record { 0 = 0 })) ≡ n = here in omega arith
      ];
}
