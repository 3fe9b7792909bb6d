-- What became of the fault.
use Rattle.std.proofs.Common.{suc, ◌+◌, refl, sym, ap, subst, ◌∙◌, arith}
use Rattle.std.specs.Prelude.{Some, slice_get}
use Rattle.v_design.specs.Plain.{fault_of}
use Rattle.v_design.specs.declared.plan.Fault.{Fault}
use Rattle.copy_lockstep.proofs.window_strobes.Knowing.{design-rules}
use Rattle.copy_lockstep.specs.copy_window.declared.fault.ShardFault.{ShardFault}
use Rattle.copy_lockstep.specs.Entered.{HasEntered}
use Rattle.copy_lockstep.specs.declared.entered.Entered.{Entered}
use Rattle.copy_lockstep.specs.window_faults.Within.{IsWithin}
use Rattle.shard_slots.specs.Slots.{Rests}
use Rattle.shard_slots.proofs.Ended.{same-fault, still-ended}
use Rattle.shard_slots.proofs.Entering.{ended-there, enters-there, passed-there}
use Rattle.shard_slots.proofs.enter.enter_open.Goals as goal

pub enter-requires-clause-some : goal.enter-requires-clause-some
enter-requires-clause-some g c κs within = omega (arith, c.requires.some)

pub enter-requires-clause-fault : goal.enter-requires-clause-fault
enter-requires-clause-fault g c κs within = c.requires.within.stands

pub enter-requires-clause-strobes : goal.enter-requires-clause-strobes
enter-requires-clause-strobes g c κs within = c.requires.within.has_passed c.requires.none

pub returns-in-Passed-clause-enters : goal.returns-in-Passed-clause-enters
returns-in-Passed-clause-enters g c =
    let window = c.args.view.now.window.now in
    let told = subst (λ (e : Entered). HasEntered g.N.World.design g.N.World.plan (fault_of c.args.fault) window (record { slot = c.args.at.now.slot; passed = c.args.at.now.passed }) c.args.last c.args.own.now c.enter.new.own e) c.in-Passed.is
    c.in_ok-entered.ensures.entered in
    passed-there g.N.World.design g.N.World.plan window.before window.through c.args.at.now.slot (fault_of c.args.fault) c.args.last c.in-Passed.further c.enter.new.own _
    c.requires.some c.requires.last told refl refl

pub returns-in-Ended-clause-enters : goal.returns-in-Ended-clause-enters
returns-in-Ended-clause-enters g c =
    let window = c.args.view.now.window.now in
    let told = subst (λ (e : Entered). HasEntered g.N.World.design g.N.World.plan (fault_of c.args.fault) window (record { slot = c.args.at.now.slot; passed = c.args.at.now.passed }) c.args.last c.args.own.now c.enter.new.own e) c.in-Ended.is
    c.in_ok-entered.ensures.entered in
    ended-there g.N.World.design g.N.World.plan window.before window.through c.args.at.now.slot c.faults_go_on.ensures
    (design-rules g.N.World.design c.design-design.result.now c.design-design.ensures.world) c.let_go_ended.new.own _ c.requires.some c.requires.slot
    (still-ended c.enter.new.own c.let_go_ended.new.own c.let_go_ended.ensures g.N.World.design g.N.World.plan (suc (window.before + c.args.at.now.slot)) told) refl

pub returns-in-Ended-clause-place : goal.returns-in-Ended-clause-place
returns-in-Ended-clause-place g c = same-fault c.enter.new.own c.let_go_ended.new.own c.let_go_ended.ensures c.args.own.now c.in_ok-entered.ensures.place

pub returns-in-Whole-clause-enters : goal.returns-in-Whole-clause-enters
returns-in-Whole-clause-enters g c =
    let window = c.args.view.now.window.now in
    let told = subst (λ (e : Entered). HasEntered g.N.World.design g.N.World.plan (fault_of c.args.fault) window (record { slot = c.args.at.now.slot; passed = c.args.at.now.passed }) c.args.last c.args.own.now c.enter.new.own e) c.in-Whole.is
    c.in_ok-entered.ensures.entered in
    subst (λ (own : ShardFault). Rests g.N.World.design g.N.World.plan window.before window.through c.args.at.now.slot own c.args.at.now) (sym told)
    (record { later = c.requires.some; within = c.requires.within; come = λ none. omega arith })

pub returns-in-On-clause-enters : goal.returns-in-On-clause-enters
returns-in-On-clause-enters g c =
    let window = c.args.view.now.window.now in
    let told = subst (λ (e : Entered). HasEntered g.N.World.design g.N.World.plan (fault_of c.args.fault) window (record { slot = c.args.at.now.slot; passed = c.args.at.now.passed }) c.args.last c.args.own.now c.enter.new.own e) c.in-On.is
    c.in_ok-entered.ensures.entered in
    enters-there g.N.World.design g.N.World.plan window.before window.through c.args.at.now.slot window c.args.last c.in-On.entering c.args.own.now c.enter.new.own _ _ refl refl
    c.requires.fine told refl refl refl refl
    (subst (λ (own : ShardFault). IsWithin g.N.World.design g.N.World.plan window.before window.through own
    (record { slot = c.args.at.now.slot; passed = c.args.at.now.passed; seen = c.in-On.entering.passed; possible = c.in-On.entering.possible })) (sym told.stays)
    (record { within = c.requires.within.within; stands = c.requires.within.stands; has_passed = c.requires.within.has_passed }))
    (ap (slice_get g.N.World.plan.faults) c.in_ok-entered.ensures.place.number ∙ c.requires.listed)

pub returns-in-Passed-clause-further : goal.returns-in-Passed-clause-further
returns-in-Passed-clause-further g c =
    let window = c.args.view.now.window.now in
    let told = subst (λ (e : Entered). HasEntered g.N.World.design g.N.World.plan (fault_of c.args.fault) window (record { slot = c.args.at.now.slot; passed = c.args.at.now.passed }) c.args.last c.args.own.now c.enter.new.own e) c.in-Passed.is
    c.in_ok-entered.ensures.entered in
    let since = told.since in
    omega (arith, since)
