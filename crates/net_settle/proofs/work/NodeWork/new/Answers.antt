use Rattle.std.proofs.Common.{◌≡◌, ◌≤◌, length, ap, sym, subst, ◌∙◌, arith}
use Rattle.std.specs.List.{All}
use Rattle.std.proofs.lemmas.List.{length-map}
use Rattle.v_design.specs.Plain.{object_of}
use Rattle.v_design.specs.declared.plan.Node.{Node}
use Rattle.net_settle.specs.NodeLaws.{few-outputs}
use Rattle.net_settle.proofs.work.NodeWork.new.Goals as goal

pub returns-clause-made : goal.returns-clause-made
returns-clause-made c = record {
  outputs = λ number node at.
      let few = few-outputs c.args.design.now.nodes c.most_outputs-most.result number node
      (subst (All (λ (node : Node). length node.outputs ≤ c.most_outputs-most.result)) c.as_slice.ensures c.most_outputs-most.ensures) at in
      omega (arith, few, c.in_ok-results.ensures.len);
  objects = c.in_ok-block.ensures ∙ ap length c.as_slice-2.ensures ∙ sym (length-map c.args.design.now.objects object_of);
}
