use Rattle.std.proofs.Common.{length, ap, ◌∙◌, arith}
use Rattle.vf_base.specs.Base.{node_number}
use Rattle.v_design.specs.Plain.{fault_of}
use Rattle.v_design.specs.PlainDesigns.{design_of}
use Rattle.v_design.specs.RulesHold.{rules_hold}
use Rattle.net_graph.specs.declared.graph.Graph.{Graph}
use Rattle.start_copy.proofs.Front.{marked-there, front-smaller}
use Rattle.start_copy.proofs.Started.{starts-on, starts-end, reads-none, node-below, good-values}
use Rattle.start_copy.proofs.reach.start_copy.Goals as goal

pub work_on-requires-clause-good : goal.work_on-requires-clause-good
work_on-requires-clause-good c =
    let d = c.args.room.now.settle.graph.now.design.now in
    good-values (design_of d) c.args.good.now c.nets.ensures.begin (rules_hold (design_of d) d.rules) c.requires.good

pub nodes-smaller : goal.nodes-smaller
nodes-smaller c =
    let d = c.args.room.now.settle.graph.now.design.now in
    let before = c.nodes.room.settle.marks.items in
    let number = node_number c.in-Some.node in
    let there = marked-there before number c.in-Some.ensures.least.was_marked in
    let sized = c.nodes.room.settle.sized ∙ ap (λ (g : Graph). length (design_of g.design.now).nodes) c.nodes.invariant.belongs in
    let found = node-below (design_of d).nodes number (omega (arith, there, sized)) in
    let comes = c.in_ok-work_on.ensures.holds found.0 found.1 in
    let graph = ap (λ (g : Graph). length (design_of g.design.now).nodes) (c.work_on.ensures.belongs ∙ c.work.ensures.belongs) in
    front-smaller before c.work.new.self.marks.items c.work_on.new.settle.marks.items number (omega (arith, c.work_on.new.settle.sized, c.nodes.room.settle.sized, graph)) c.in-Some.ensures.least
    (λ k low. comes.marks.only k (λ object drives. reads-none (design_of d) number found.0 (rules_hold (design_of d) d.rules) found.1 k low object drives))

pub nodes-preserved : goal.nodes-preserved
nodes-preserved c =
    let d = c.args.room.now.settle.graph.now.design.now in
    let before = c.nodes.room.settle.marks.items in
    let number = node_number c.in-Some.node in
    let there = marked-there before number c.in-Some.ensures.least.was_marked in
    let sized = c.nodes.room.settle.sized ∙ ap (λ (g : Graph). length (design_of g.design.now).nodes) c.nodes.invariant.belongs in
    let found = node-below (design_of d).nodes number (omega (arith, there, sized)) in
    record {
      belongs = c.work_on.ensures.belongs ∙ c.work.ensures.belongs ∙ c.nodes.invariant.belongs;
      made = c.work_on.ensures.made;
      so =
          starts-on (design_of d) (fault_of c.args.fault) c.args.good.now c.args.copy.now c.nodes.copy c.work_on.new.copy before c.work.new.self.marks.items c.work_on.new.settle.marks.items number
          found.0 c.nets.ensures.settle (rules_hold (design_of d) d.rules) found.1 c.nodes.invariant.so c.in-Some.ensures.least (c.in_ok-work_on.ensures.holds found.0 found.1);
    }

pub returns-clause-keeps : goal.returns-clause-keeps
returns-clause-keeps c =
    let d = c.args.room.now.settle.graph.now.design.now in
    starts-end (design_of d) (fault_of c.args.fault) c.args.good.now c.args.copy.now c.nodes.copy c.nodes.room.settle.marks.items c.nets.ensures.settle c.nets.ensures.one c.nets.ensures.begin
    (rules_hold (design_of d) d.rules) c.requires.good c.nodes.invariant.so c.in_default.ensures.least.0 c.ascending.ensures.values
