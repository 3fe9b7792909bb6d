-- Slot by slot.
use Rattle.std.proofs.Common.{◌≡◌, ℕ, ◌+◌, ap, subst, arith}
use Rattle.copy_lockstep.specs.graded_steps.Behind.{RisesWithin}
use Rattle.copy_lockstep.proofs.window_strobes.Knowing.{design-rules}
use Rattle.copy_lockstep.specs.window_strobes.Strobes.{passed_behind}
use Rattle.copy_lockstep.specs.window_faults.Steps.{StaysFault, steps_of_faults}
use Rattle.copy_lockstep.proofs.window_faults.Lists.{zip-join}
use Rattle.copy_lockstep.proofs.window_faults.Steps.{stays-on}
use Rattle.copy_lockstep.proofs.window_faults.Within.{are-within-all}
use Rattle.shard_slots.proofs.Numbers.{same-all}
use Rattle.shard_slots.proofs.slots.go_through.Goals as goal

pub slots-init : goal.slots-init
slots-init g c = record {
  most = omega (arith, c.slots-slots.ensures);
  within = c.in_ok-ats.ensures.within;
  zip = c.in_ok-ats.ensures.faults;
  room = c.requires.room;
  lockstep = c.requires.lockstep;
  ticks = λ tally.
      (let before = c.args.view.now.window.now.before in
      let more = same-all tally before c.args.faults.now.items c.begin_each.new.faults.items c.in_ok-ats.ensures.faults in
      let here : before ≡ before + 0 = omega arith in
      let same = ap (λ (n : ℕ). steps_of_faults tally n c.begin_each.new.faults.items) here in
      omega (arith, more, same));
}

pub go_slot-requires-clause-slot : goal.go_slot-requires-clause-slot
go_slot-requires-clause-slot g c κs within = omega (arith, c.slots-test.true, c.slots-slots.ensures)

pub slots-preserved : goal.slots-preserved
slots-preserved g c = record {
  most = omega (arith, c.slots-test.true, c.slots-slots.ensures);
  within = c.in_ok-go_slot.ensures.within;
  zip = zip-join StaysFault stays-on c.args.faults.now.items c.slots.faults.items c.go_slot.new.faults.items c.slots.invariant.zip c.in_ok-go_slot.ensures.faults;
  room = c.in_ok-go_slot.ensures.room;
  lockstep = c.in_ok-go_slot.ensures.lockstep;
  ticks = λ tally. (let so_far = c.slots.invariant.ticks tally in let one = c.in_ok-go_slot.ensures.ticks tally in omega (arith, so_far, one));
}

pub returns-clause-faults : goal.returns-clause-faults
returns-clause-faults g c =
    are-within-all g.N.World.design g.N.World.plan c.args.view.now.window.now.before c.args.view.now.window.now.through c.faults_go_on.ensures
    (design-rules g.N.World.design c.design-design.result.now c.design-design.ensures.world) c.slots.slot (passed_behind c.args.strobes.now) c.args.faults.now.items c.slots.faults.items c.slots.ats.items
    (omega (arith, c.slots-test.false, c.slots.invariant.most, c.slots-slots.ensures)) c.requires.behind c.slots.invariant.within c.slots.invariant.zip

pub returns-clause-ticks : goal.returns-clause-ticks
returns-clause-ticks g c tally =
    let all : c.args.view.now.window.now.before + c.slots.slot ≡ c.args.view.now.window.now.through = omega (arith, c.slots-test.false, c.slots.invariant.most, c.slots-slots.ensures) in
    subst (λ (n : ℕ). RisesWithin (steps_of_faults tally c.args.view.now.window.now.before c.args.faults.now.items)
    (steps_of_faults tally n c.slots.faults.items) c.args.steps.now c.slots.steps) all (c.slots.invariant.ticks tally)
