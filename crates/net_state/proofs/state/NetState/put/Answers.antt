use Rattle.std.proofs.Common.{sym, subst}
use Rattle.v_design.specs.PlainDesigns.{design_of}
use Rattle.net_settle.specs.Rooms.{IsMadeFor}
use Rattle.net_settle.specs.declared.settle.Settle.{Settle}
use Rattle.net_state.proofs.state.NetState.put.Goals as goal

pub invariant_of-self : goal.invariant_of-self
invariant_of-self c = record {
  made = subst (λ (s : Settle). IsMadeFor (design_of s.graph.now.design.now) c.args.self.now.room) (sym c.hold_one.ensures.settle) c.args.self.now.made;
}
