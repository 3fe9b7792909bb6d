-- One slot more.
use Rattle.std.proofs.Common.{◌+◌, ◌<◌, ◌^◌, sym, subst, arith}
use Rattle.v_design.specs.Designs.{good_machine}
use Rattle.v_design.specs.Grades.{phases}
use Rattle.trace_window.specs.LogLaws.{slot-acted}
use Rattle.window_blocks.specs.Kept.{IsLoggedAt}
use Rattle.window_wakes.specs.Kept.{WakesSpan}
use Rattle.window_wakes.proofs.Windows.{GathersWakes-push, push-fits}
use Rattle.window_wakes.proofs.wakes.WakeList.push.Goals as goal

pub invariant_of-self : goal.invariant_of-self
invariant_of-self g c =
    let l = c.self.inside in
    GathersWakes-push
    (record {
      begin = c.slot_goes_on.ensures.begin;
      event = c.stretches_go_on.ensures.event;
      turn = c.slot_goes_on.ensures.turn;
      ends = c.slots.ensures;
      phases = c.nets.ensures.begin;
      runs = c.first_run_goes_on.ensures;
    })
    c.phases_follow.ensures.phases c.causes_tell_wakes.ensures g.N.World.design g.N.World.plan l.before l.through l.moment c.in-Ok.moment c.args.log.now l.wakes.items c.push_slot.new.wakes.items
    c.self.invariant (subst (λ (k : WakesSpan). IsLoggedAt g.N.World.design g.N.World.plan k.through c.args.log.now) (sym c.self.view_is) c.requires) c.in-Ok.ensures.wakes c.in-Ok.ensures.moment

pub push_slot-requires : goal.push_slot-requires
push_slot-requires g c = slot-acted (good_machine g.N.World.design) c.requires.first (phases (good_machine g.N.World.design) c.requires.slot) c.args.log.now c.requires.logged

pub overflow_add-self : goal.overflow_add-self
overflow_add-self g c =
    let l = c.self.inside in
    let fits : l.through + 1 < 2 ^ 64 =
    push-fits g.N.World.design g.N.World.plan l.through c.args.log.now c.self.invariant.run_fits
    (subst (λ (k : WakesSpan). IsLoggedAt g.N.World.design g.N.World.plan k.through c.args.log.now) (sym c.self.view_is) c.requires) in
    omega (arith, fits)
