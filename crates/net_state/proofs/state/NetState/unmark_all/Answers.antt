use Rattle.std.proofs.Common.{◌≡◌, ◌∙◌, sym, subst, length, arith, ap}
use Rattle.v_design.specs.PlainDesigns.{design_of}
use Rattle.net_graph.specs.declared.graph.Graph.{Graph}
use Rattle.net_settle.specs.Rooms.{IsMadeFor}
use Rattle.net_state.specs.HeldLaws.{none-at-start}
use Rattle.net_state.proofs.state.NetState.unmark_all.Goals as goal

pub invariant_of-self : goal.invariant_of-self
invariant_of-self c = record {
  made = subst (λ (g : Graph). IsMadeFor (design_of g.design.now) c.args.self.now.room) (sym c.unmark_all.ensures.belongs) c.args.self.now.made;
}

pub returns-clause-nodes : goal.returns-clause-nodes
returns-clause-nodes c =
    let settle = c.unmark_all.new.self.settle in
    let sized : length settle.marks.items ≡ length (design_of settle.graph.now.design.now).nodes = omega (arith, settle.sized) in
    none-at-start settle.marks.items (design_of c.args.self.now.objects.settle.graph.now.design.now).nodes
    (sized ∙ ap (λ (g : Graph). length (design_of g.design.now).nodes) c.unmark_all.ensures.belongs) c.unmark_all.ensures.marks
