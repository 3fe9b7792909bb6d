-- From the copy on.
use Rattle.std.proofs.Common.{◌+◌, length, refl, subst, ◌<◌, ◌≤◌, arith}
use Rattle.v_design.specs.Plain.{fault_of}
use Rattle.run_ends.specs.RunEnds.{AreCodesOf}
use Rattle.copy_window.specs.ShardFaults.{kept_by}
use Rattle.copy_window.proofs.Entering.{goes-again, is-room, settled-ticks}
use Rattle.copy_window.proofs.Rules.{has-rules}
use Rattle.copy_window.proofs.Starting.{can-enter, more-slots}
use Rattle.copy_window.proofs.resume.resume_fault.Goals as goal

pub enter-requires-clause-slot : goal.enter-requires-clause-slot
enter-requires-clause-slot g c κs within = omega (arith, c.requires.slot, c.requires.end)

pub enter-requires-clause-copy : goal.enter-requires-clause-copy
enter-requires-clause-copy g c κs within =
    let at = c.args.window.now.before + c.args.slot in
    let more = more-slots g.N.World.design g.N.World.plan c.args.window.now.before c.args.window.now.through c.args.window.now.ending c.begins-first.ensures.window at
    (omega (arith, c.requires.slot, c.requires.end)) in
    (can-enter g.N.World.design g.N.World.plan (fault_of c.args.fault) at (c.args.window.now.before + c.args.end) c.args.strobes.now c.args.own.now c.requires.fault more c.args.setup.now.codes
    (subst (AreCodesOf g.N.World.design) c.codes-codes.ensures.codes c.codes-codes.ensures.world))

pub settle-requires-clause-fault : goal.settle-requires-clause-fault
settle-requires-clause-fault g c κs within =
    let at = c.args.window.now.before + c.args.slot in
    let more = more-slots g.N.World.design g.N.World.plan c.args.window.now.before c.args.window.now.through c.args.window.now.ending c.begins-first.ensures.window at
    (omega (arith, c.requires.slot, c.requires.end)) in (
      at,
      goes-again c.machines_stand.ensures c.strobed_gradings_go_on.ensures c.faults_go_on.ensures c.slots_are_known.ensures g.N.World.design g.N.World.plan at
          (c.args.window.now.before + c.args.end) c.args.window.now.before c.args.window.now.through c.args.strobes.now _
          (fault_of c.args.fault) c.args.own.now c.enter.new.room c.slots_told.ensures (omega arith) c.requires.end (omega (arith, c.requires.slot)) c.requires.tried c.slot_time.ensures
          c.requires.fault more
          (has-rules g.N.World.design g.N.World.plan c.design-design.result.now c.plan-plan.result.now c.design-design.ensures.world c.plan-plan.ensures.world c.plan-plan.ensures.fits)
          (c.in_ok-enter.ensures
          (can-enter g.N.World.design g.N.World.plan (fault_of c.args.fault) at (c.args.window.now.before + c.args.end) c.args.strobes.now c.args.own.now c.requires.fault more c.args.setup.now.codes
          (subst (AreCodesOf g.N.World.design) c.codes-codes.ensures.codes c.codes-codes.ensures.world))),
    )

pub returns-clause-room : goal.returns-clause-room
returns-clause-room g c =
    let at = c.args.window.now.before + c.args.slot in
    let more = more-slots g.N.World.design g.N.World.plan c.args.window.now.before c.args.window.now.through c.args.window.now.ending c.begins-first.ensures.window at
    (omega (arith, c.requires.slot, c.requires.end)) in
    is-room g.N.World.design (fault_of c.args.fault) _ c.enter.new.room c.settle.new.machine
    (c.in_ok-enter.ensures
    (can-enter g.N.World.design g.N.World.plan (fault_of c.args.fault) at (c.args.window.now.before + c.args.end) c.args.strobes.now c.args.own.now c.requires.fault more c.args.setup.now.codes
    (subst (AreCodesOf g.N.World.design) c.codes-codes.ensures.codes c.codes-codes.ensures.world)))
    c.in_ok-settle.ensures.stays

pub returns-clause-ticks : goal.returns-clause-ticks
returns-clause-ticks g c =
    let at = c.args.window.now.before + c.args.slot in
    let more = more-slots g.N.World.design g.N.World.plan c.args.window.now.before c.args.window.now.through c.args.window.now.ending c.begins-first.ensures.window at
    (omega (arith, c.requires.slot, c.requires.end)) in
    settled-ticks g.N.World.design g.N.World.plan at (c.args.window.now.before + c.args.end) c.args.strobes.now _ c.enter.new.room c.args.own.now (fault_of c.args.fault)
    (kept_by c.args.own.now) c.args.steps.now (c.settle.new.steps + length c.args.tried.now) c.in_ok-settle.ensures.ticks
    (goes-again c.machines_stand.ensures c.strobed_gradings_go_on.ensures c.faults_go_on.ensures c.slots_are_known.ensures g.N.World.design g.N.World.plan at
    (c.args.window.now.before + c.args.end) c.args.window.now.before c.args.window.now.through c.args.strobes.now _
    (fault_of c.args.fault) c.args.own.now c.enter.new.room c.slots_told.ensures (omega arith) c.requires.end (omega (arith, c.requires.slot)) c.requires.tried c.slot_time.ensures
    c.requires.fault more
    (has-rules g.N.World.design g.N.World.plan c.design-design.result.now c.plan-plan.result.now c.design-design.ensures.world c.plan-plan.ensures.world c.plan-plan.ensures.fits)
    (c.in_ok-enter.ensures
    (can-enter g.N.World.design g.N.World.plan (fault_of c.args.fault) at (c.args.window.now.before + c.args.end) c.args.strobes.now c.args.own.now c.requires.fault more c.args.setup.now.codes
    (subst (AreCodesOf g.N.World.design) c.codes-codes.ensures.codes c.codes-codes.ensures.world))))
    c.requires.fault.listed refl
