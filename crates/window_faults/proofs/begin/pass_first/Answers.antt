-- Over all slots, or over the first ones, or none.
use Rattle.std.proofs.Common.{◌≡◌, ℕ, ◌+◌, ◌<◌, sym, subst, ◌∙◌, arith}
use Rattle.slot_strobes.specs.window_strobes.Neighbours.{slots-within}
use Rattle.slot_strobes.specs.window_strobes.Passed.{HasPassed}
use Rattle.slot_strobes.specs.window_strobes.Strobes.{passed_behind}
use Rattle.slot_strobes.specs.copy_window.ShardFaults.{IsShardFault}
use Rattle.window_faults.proofs.Steps.{stays-open}
use Rattle.window_faults.proofs.Within.{is-listed, passed-to, within-there}
use Rattle.window_faults.proofs.begin.pass_first.Goals as goal

pub listed_fault-fault-requires-after_bounds : goal.listed_fault-fault-requires-after_bounds
listed_fault-fault-requires-after_bounds g c κs within =
    is-listed g.N.World.design g.N.World.plan c.args.window.now.before c.args.strobes.now.passed c.args.own.now c.requires.fault

pub pass_over-slot-requires-clause-fault : goal.pass_over-slot-requires-clause-fault
pass_over-slot-requires-clause-fault g c κs within = record {
  some = c.requires.some;
  stands = c.requires.fault;
  listed = c.listed_fault-fault.ensures;
  none = c.requires.none;
  are = c.requires.strobes;
}

pub pass_over-slot-requires-clause-now : goal.pass_over-slot-requires-clause-now
pass_over-slot-requires-clause-now g c κs within = c.requires.now

pub count_behind-requires-after_bounds : goal.count_behind-requires-after_bounds
count_behind-requires-after_bounds g c κs within = c.requires.behind.within

pub strobes_before-passed-requires-clause-slot : goal.strobes_before-passed-requires-clause-slot
strobes_before-passed-requires-clause-slot g c κs within = c.pass_over-slot.ensures.within

pub strobes_before-passed-requires-clause-more : goal.strobes_before-passed-requires-clause-more
strobes_before-passed-requires-clause-more g c κs within =
    let all = slots-within g.N.World.design g.N.World.plan c.args.window.now.before c.args.window.now.through c.args.window.now.ending c.begins-first.ensures.window in
    omega (arith, c.if-slot-slots.false, c.slots-slots.ensures, c.pass_over-slot.ensures.within, all)

pub strobes_before-passed-requires-clause-passed : goal.strobes_before-passed-requires-clause-passed
strobes_before-passed-requires-clause-passed g c κs within = c.requires.strobes.has_passed

pub returns-then-slot-slots-clause-within : goal.returns-then-slot-slots-clause-within
returns-then-slot-slots-clause-within g c =
    let design = g.N.World.design in
    let plan = g.N.World.plan in
    let before = c.args.window.now.before in
    let own = c.pass_over-slot.new.own in
    let all : before + c.pass_over-slot.result ≡ c.args.window.now.through = omega (arith, c.if-slot-slots.true, c.slots-slots.ensures) in
    within-there design plan before c.args.window.now.through c.pass_over-slot.result (passed_behind c.args.strobes.now) own c.comes_to.result c.comes_to.ensures.slot
    (c.comes_to.ensures.passed ∙ c.count_behind.ensures) c.pass_over-slot.ensures.within
    (subst (λ (n : ℕ). IsShardFault design plan n (passed_behind c.args.strobes.now) own) (sym all) (c.pass_over-slot.ensures.all all))
    (λ none. subst (λ (n : ℕ). HasPassed design plan n (passed_behind c.args.strobes.now)) (sym all) c.requires.behind)

pub returns-then-slot-slots-clause-stays : goal.returns-then-slot-slots-clause-stays
returns-then-slot-slots-clause-stays g c = stays-open c.args.own.now c.pass_over-slot.new.own c.pass_over-slot.ensures.place c.requires.none

pub returns-clause-within : goal.returns-clause-within
returns-clause-within g c =
    let design = g.N.World.design in
    let plan = g.N.World.plan in
    let before = c.args.window.now.before in
    let slot = c.pass_over-slot.result in
    let own = c.pass_over-slot.new.own in
    let further : before + slot < c.args.window.now.through = omega (arith, c.if-slot-slots.false, c.slots-slots.ensures, c.pass_over-slot.ensures.within) in
    let has = c.strobes_before-passed.ensures.passed in
    within-there design plan before c.args.window.now.through slot c.strobes_before-passed.result own c.comes_to-2.result c.comes_to-2.ensures.slot c.comes_to-2.ensures.passed
    c.pass_over-slot.ensures.within
    (passed-to design plan before slot c.args.strobes.now.passed c.strobes_before-passed.result c.args.own.now own c.requires.fault c.requires.strobes.has_passed c.pass_over-slot.ensures.stays has
    (λ some. c.pass_over-slot.ensures.part some further c.strobes_before-passed.result c.strobes_before-passed.ensures.since has))
    (λ none. has)

pub returns-clause-stays : goal.returns-clause-stays
returns-clause-stays g c = stays-open c.args.own.now c.pass_over-slot.new.own c.pass_over-slot.ensures.place c.requires.none
