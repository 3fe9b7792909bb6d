-- One slot more.
use Rattle.std.proofs.Common.{sym, subst}
use Rattle.window_blocks.specs.Kept.{BlocksKept, IsLoggedAt}
use Rattle.window_blocks.proofs.Keeping.{KeepsBlocks-push}
use Rattle.window_blocks.proofs.blocks.BlockList.push.Goals as goal

pub invariant_of-self : goal.invariant_of-self
invariant_of-self g c =
    let l = c.self.inside in
    KeepsBlocks-push
    (record {
      begin = c.slot_goes_on.ensures.begin;
      event = c.stretches_go_on.ensures.event;
      turn = c.slot_goes_on.ensures.turn;
      ends = c.slots.ensures;
      phases = c.nets.ensures.begin;
      runs = c.first_run_goes_on.ensures;
    })
    c.phases_follow.ensures.phases g.N.World.design g.N.World.plan l.before l.through c.args.log.now l.table c.push_slot.new.self c.self.invariant
    (subst (λ (k : BlocksKept). IsLoggedAt g.N.World.design g.N.World.plan k.through c.args.log.now) (sym c.self.view_is) c.requires) c.in-Ok.ensures
