use Rattle.std.proofs.Common.{rules, arith, ◌≡◌, ◌<◌, ◌≤◌, ap, sym, subst, length, map, vec_len, List}
use Rattle.std.proofs.lemmas.List.{length-map}
use Rattle.vf_base.specs.declared.ids.ObjectId.{ObjectId}
use Rattle.vf_base.specs.Base.{object_number}
use Rattle.v_design.specs.Plain.{node_of}
use Rattle.v_design.specs.PlainDesigns.{design_of}
use Rattle.net_graph.specs.RuleLaws.{nodes_are_few, outputs_below, node_in}
use Rattle.net_graph.specs.Walks.{ClearsCounts}
use Rattle.net_graph.specs.WalkLaws.{OnlyDrivenCount-more, OnlyDrivenCount-all}
use Rattle.net_graph.proofs.walk.clear_driven.Goals as goal

pub overflow_add-at : goal.overflow_add-at
overflow_add-at c =
    let low : c.in-Some.number < c.args.walked.now.bound = c.in-Some.ensures.1 in
    let same : c.args.walked.now.bound ≡ length (design_of c.args.design.now).nodes = c.requires.walked_sized in
    let few : length (design_of c.args.design.now).nodes ≤ 65536 = nodes_are_few (design_of c.args.design.now) c.args.design.now.rules in
    omega arith

pub nodes-smaller : goal.nodes-smaller
nodes-smaller c =
    let since : c.nodes.at ≤ c.in-Some.number = c.in-Some.ensures.0 in
    let low : c.in-Some.number < c.args.walked.now.bound = c.in-Some.ensures.1 in
    let same : c.args.walked.now.bound ≡ length (design_of c.args.design.now).nodes = c.requires.walked_sized in
    omega arith

pub clear_outputs-requires : goal.clear_outputs-requires
clear_outputs-requires c =
    let within : c.in-Some.number < c.args.walked.now.bound = c.in-Some.ensures.1 in
    let same : c.args.walked.now.bound ≡ length (design_of c.args.design.now).nodes = c.requires.walked_sized in
    let low : c.in-Some.number < length c.as_slice-nodes.result.now = omega (arith, ap length c.as_slice-nodes.ensures, length-map c.args.design.now.nodes node_of) in
    let sized : vec_len c.args.counts.now ≡ length (design_of c.args.design.now).objects = c.requires.sized in
    let kept : vec_len c.nodes.counts ≡ vec_len c.args.counts.now = c.nodes.invariant.same in
    outputs_below (design_of c.args.design.now) c.in-Some.number (node_of c.index-nodes-place.result) c.as_slice.result.now (vec_len c.nodes.counts) c.args.design.now.rules
    (node_in c.args.design.now.nodes c.as_slice-nodes.result.now c.in-Some.number c.index-nodes-place.result c.as_slice-nodes.ensures low c.index-nodes-place.is)
    (ap (map object_number) (sym c.as_slice.ensures)) (omega arith)

pub nodes-preserved : goal.nodes-preserved
nodes-preserved c =
    let within : c.in-Some.number < c.args.walked.now.bound = c.in-Some.ensures.1 in
    let same : c.args.walked.now.bound ≡ length (design_of c.args.design.now).nodes = c.requires.walked_sized in
    let low : c.in-Some.number < length c.as_slice-nodes.result.now = omega (arith, ap length c.as_slice-nodes.ensures, length-map c.args.design.now.nodes node_of) in
    record {
      same = search rules;
      only =
          OnlyDrivenCount-more (design_of c.args.design.now).nodes c.args.walked.now c.nodes.at c.in-Some.number (node_of c.index-nodes-place.result) c.nodes.counts.items
          c.clear_outputs.new.counts.items c.nodes.invariant.only c.in-Some.ensures
          (node_in c.args.design.now.nodes c.as_slice-nodes.result.now c.in-Some.number c.index-nodes-place.result c.as_slice-nodes.ensures low c.index-nodes-place.is)
          (subst (λ (outputs : List ObjectId). ClearsCounts (map object_number outputs) c.nodes.counts.items c.clear_outputs.new.counts.items) c.as_slice.ensures c.clear_outputs.ensures.cleared);
    }

pub returns-clause-none : goal.returns-clause-none
returns-clause-none c =
    OnlyDrivenCount-all (design_of c.args.design.now).nodes c.args.walked.now c.nodes.at c.nodes.counts.items c.requires.walked_sized c.nodes.invariant.only c.in_default.ensures
