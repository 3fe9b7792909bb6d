-- Over slots, or to the slot.
use Rattle.std.proofs.Common.{◌≡◌, ◌+◌, ◌∙◌, sym, subst, arith}
use Rattle.v_design.specs.Plain.{fault_of}
use Rattle.lockstep_due.proofs.window_strobes.Knowing.{design-rules}
use Rattle.lockstep_due.specs.copy_window.declared.fault.ShardFault.{ShardFault}
use Rattle.copy_lockstep.specs.Entered.{HasEntered}
use Rattle.copy_lockstep.specs.Faults.{IsOpenAtSlot}
use Rattle.copy_lockstep.proofs.Slots.{opens}
use Rattle.copy_lockstep.proofs.Stops.{fewer}
use Rattle.copy_lockstep.proofs.before.enter.Goals as goal

pub pass_slots-passed-requires-clause-order : goal.pass_slots-passed-requires-clause-order
pass_slots-passed-requires-clause-order g c κs within = omega (arith, c.requires.slot, c.if-at-last.false, c.end_of_passing.ensures.most, c.min-to.ensures)

pub pass_slots-passed-requires-clause-within : goal.pass_slots-passed-requires-clause-within
pass_slots-passed-requires-clause-within g c κs within = omega (arith, c.requires.last, c.min-to.ensures)

pub pass_slots-passed-requires-clause-more : goal.pass_slots-passed-requires-clause-more
pass_slots-passed-requires-clause-more g c κs within = omega (arith, c.end_of_passing.ensures.more, c.min-to.ensures)

pub pass_slots-passed-requires-clause-fault : goal.pass_slots-passed-requires-clause-fault
pass_slots-passed-requires-clause-fault g c κs within =
    opens c.good_run_goes_on.ensures g.N.World.design g.N.World.plan (fault_of c.args.fault) (c.args.view.now.window.now.before + c.args.at.slot) c.args.at.passed c.args.own.now
    (design-rules g.N.World.design c.design-design.result.now c.design-design.ensures.world) (record { stands = c.requires.fault; has_passed = λ none. c.requires.strobes })
    c.requires.listed c.requires.none c.requires.some (omega (arith, c.requires.slot, c.end_of_passing.ensures.most, c.end_of_passing.ensures.more))

pub returns-then-passed-at-clause-entered : goal.returns-then-passed-at-clause-entered
returns-then-passed-at-clause-entered g c = record {
  since = c.if-passed-at.true;
  by = omega (arith, c.pass_slots-passed.ensures.by, c.min-to.ensures);
  stands = c.pass_slots-passed.ensures.fault;
}

pub try_slot-requires-clause-fine : goal.try_slot-requires-clause-fine
try_slot-requires-clause-fine g c κs within =
    let before = c.args.view.now.window.now.before in
    fewer g.N.World.design g.N.World.plan (before + c.args.at.slot + 1) (before + c.args.last) (omega (arith, c.if-at-last.false)) c.requires.fine

pub try_slot-requires-clause-fault : goal.try_slot-requires-clause-fault
try_slot-requires-clause-fault g c κs within =
    let same : c.pass_slots-passed.result.slot ≡ c.args.at.slot = omega (arith, c.if-passed-at.false, c.pass_slots-passed.ensures.since) in
    subst (λ (own : ShardFault). IsOpenAtSlot g.N.World.design g.N.World.plan (fault_of c.args.fault) (c.args.view.now.window.now.before + c.args.at.slot) c.args.at.passed own)
    (sym (c.pass_slots-passed.ensures.stays same))
    (opens c.good_run_goes_on.ensures g.N.World.design g.N.World.plan (fault_of c.args.fault) (c.args.view.now.window.now.before + c.args.at.slot) c.args.at.passed c.args.own.now
    (design-rules g.N.World.design c.design-design.result.now c.design-design.ensures.world) (record { stands = c.requires.fault; has_passed = λ none. c.requires.strobes })
    c.requires.listed c.requires.none c.requires.some (omega (arith, c.requires.slot, c.end_of_passing.ensures.most, c.end_of_passing.ensures.more)))

pub returns-clause-entered : goal.returns-clause-entered
returns-clause-entered g c =
    let same : c.pass_slots-passed.result.slot ≡ c.args.at.slot = omega (arith, c.if-passed-at.false, c.pass_slots-passed.ensures.since) in
    subst (λ (own : ShardFault). HasEntered g.N.World.design g.N.World.plan (fault_of c.args.fault) c.args.view.now.window.now c.args.at c.args.last own c.try_slot.new.own c.in_ok-entered.entered)
    (c.pass_slots-passed.ensures.stays same) (c.in_ok-entered.ensures.entered c.args.last c.if-at-last.false)

pub returns-clause-place : goal.returns-clause-place
returns-clause-place g c = record {
  number = c.in_ok-entered.ensures.place.number ∙ c.pass_slots-passed.ensures.place.number;
  kind = c.in_ok-entered.ensures.place.kind ∙ c.pass_slots-passed.ensures.place.kind;
}
