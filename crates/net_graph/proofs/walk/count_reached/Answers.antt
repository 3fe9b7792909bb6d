use Rattle.std.proofs.Common.{rules, arith, ◌≡◌, ◌<◌, ◌≤◌, ◌∙◌, length}
use Rattle.v_design.specs.PlainDesigns.{design_of}
use Rattle.net_graph.specs.RuleLaws.{nodes_are_few}
use Rattle.net_graph.specs.WalkLaws.{IsWalked-start, IsWalked-more, IsWalked-all}
use Rattle.net_graph.proofs.walk.count_reached.Goals as goal

pub nodes-init : goal.nodes-init
nodes-init c = record {
  walk = IsWalked-start (design_of c.args.graph.now.design.now) c.args.from c.args.counts.now.items c.args.walked.now c.add_readers.new.walked (search rules) c.requires.none c.add_readers.ensures;
  same = search rules;
  walked_same = c.add_readers.ensures.bound_is;
}

pub pass_node-requires-clause-is_node : goal.pass_node-requires-clause-is_node
pass_node-requires-clause-is_node c =
    let low : c.in-Some.number < c.nodes.walked.bound = c.in-Some.ensures.1 in
    let same : c.nodes.walked.bound ≡ length (design_of c.args.graph.now.design.now).nodes = c.nodes.invariant.walked_same ∙ c.requires.walked_sized in
    omega arith

pub overflow_add-at : goal.overflow_add-at
overflow_add-at c =
    let low : c.in-Some.number < c.nodes.walked.bound = c.in-Some.ensures.1 in
    let same : c.nodes.walked.bound ≡ length (design_of c.args.graph.now.design.now).nodes = c.nodes.invariant.walked_same ∙ c.requires.walked_sized in
    let few : length (design_of c.args.graph.now.design.now).nodes ≤ 65536 = nodes_are_few (design_of c.args.graph.now.design.now) c.args.graph.now.design.now.rules in
    omega arith

pub nodes-smaller : goal.nodes-smaller
nodes-smaller c =
    let since : c.nodes.at ≤ c.in-Some.number = c.in-Some.ensures.0 in
    let low : c.in-Some.number < c.nodes.walked.bound = c.in-Some.ensures.1 in
    let same : c.nodes.walked.bound ≡ length (design_of c.args.graph.now.design.now).nodes = c.nodes.invariant.walked_same ∙ c.requires.walked_sized in
    omega arith

pub nodes-preserved : goal.nodes-preserved
nodes-preserved c = record {
  walk =
      IsWalked-more (design_of c.args.graph.now.design.now) c.args.graph.now.design.now.rules c.args.from c.nodes.at c.in-Some.number c.nodes.counts.items c.pass_node.new.counts.items
      c.nodes.walked c.pass_node.new.walked (search rules) c.nodes.invariant.walk c.in-Some.ensures c.pass_node.ensures.passed;
  same = search rules;
  walked_same = c.pass_node.ensures.passed.added.bound_is ∙ c.nodes.invariant.walked_same;
}

pub returns-clause-counted : goal.returns-clause-counted
returns-clause-counted c =
    IsWalked-all (design_of c.args.graph.now.design.now) c.args.graph.now.design.now.rules c.args.from c.nodes.at c.nodes.counts.items c.nodes.walked (search rules)
    (c.nodes.invariant.walked_same ∙ c.requires.walked_sized) c.nodes.invariant.walk c.in_default.ensures
