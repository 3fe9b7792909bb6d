-- Slot by slot.
use Rattle.std.proofs.Common.{◌≡◌, ◌+◌, subst, arith}
use Rattle.window_strobes.specs.Slots.{BeginsBy}
use Rattle.window_strobes.proofs.Counting.{comes-here, begun-more, comes-all}
use Rattle.window_strobes.proofs.slots.slots_by.Goals as goal

pub returns-then-time-slot_time : goal.returns-then-time-slot_time
returns-then-time-slot_time g c =
    comes-here g.N.World.design g.N.World.plan c.args.window.now.before c.args.window.now.through c.args.time c.slots.slot c.slots.invariant.begun c.slot_time.result
    (omega arith) (record { is = c.slot_time.ensures }) c.if-time-slot_time.true

pub slots-preserved : goal.slots-preserved
slots-preserved g c = record {
  fits = omega arith;
  begun = begun-more g.N.World.design g.N.World.plan c.args.window.now.before c.args.window.now.through c.args.time c.slots.slot c.slots.invariant.begun c.slot_time.result
      (record { is = c.slot_time.ensures }) c.if-time-slot_time.false;
}

pub returns : goal.returns
returns g c =
    let all : c.slots.slot ≡ c.slots-count.result = omega arith in
    comes-all g.N.World.design g.N.World.plan c.args.window.now.before c.args.window.now.through c.args.time c.slots-count.result
    (subst (λ n. BeginsBy g.N.World.design g.N.World.plan (c.args.window.now.before + n) c.args.time) all c.slots.invariant.begun) c.slots-count.ensures
